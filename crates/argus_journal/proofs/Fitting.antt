-- A fitting change leaves a fitting content, and what fits still fits when more objects are declared.
use Rattle.std.proofs.Common.{Bool, List, None, Option, Some, [], arith, drop, false, length, nat_lt, refl, suc, take}
use Rattle.std.proofs.{Common.{true, zero, ℕ, ℤ, ◌++◌, ◌∷◌, ◌≡◌, ◌≤◌}, lemmas.Bool.{Decides.nat_tests, and_from}}
use Rattle.std.{proofs.lemmas.Bool.{and_parts, false≢true}, specs.Prelude.{if◌then◌else◌, slice_set}}
use Rattle.argus_contents.specs.Change.{Outcome, PlainChange, array_outcome, removed_low, outcome, stored_at, touch}
use Rattle.argus_contents.specs.{Change.trimmed, Content.{KeepsLimits, PlainContent, arr, is_within, rec, var}}
use Rattle.argus_contents.specs.{Fitting.{change_suits, is_fitting}, Shape.PlainShape, Ty.{PlainFields, PlainTy}}
use Rattle.argus_contents.specs.{Typing.{all_typed, each_typed, is_typed, is_typed_at, ty_at}, Value.PlainValue}
use Rattle.argus_contents.specs.{Value.{PlainValues, listed}, declared.signal.Signal.Signal}
use Rattle.argus_contents.proofs.{Fitted.{keeps_within, within_keeps}, Kept.array_keeps}
use Rattle.argus_journal.specs.Opening.{fits_shape}
use Rattle.argus_contents.specs.Shape as shape
use Rattle.argus_contents.specs.Ty as ty
use Rattle.argus_contents.specs.Value as value

pub nothing : {A : Type 0} → false ≡ true → A
nothing e = absurd (false≢true e)

-- values of a type, where more objects are declared

lower : (o m n : ℕ) → m ≤ n → nat_lt o m ≡ true → nat_lt o n ≡ true
lower o m n le e = grind (arith, nat_tests)

-- the test of the type that is there, if it is
abbrev pub at_type : (PlainTy → Bool) → Option PlainTy → Bool
at_type test t = elim t [ None ↦ false | Some x ↦ test x ]

at_more : (t : Option PlainTy) (p q : PlainTy → Bool) → ((x : PlainTy) → p x ≡ true → q x ≡ true) → at_type p t ≡ true
    → at_type q t ≡ true
at_more t p q more e = grind (arith, nat_tests)

mutual
  pub typed_more : (v : PlainValue) (t : PlainTy) (m n : ℕ) → m ≤ n → is_typed t m v ≡ true → is_typed t n v ≡ true
  typed_more value.null ty.null m n le e = refl
  typed_more (value.bool b) ty.bool m n le e = refl
  typed_more (value.int i) ty.int m n le e = refl
  typed_more (value.text b) ty.text m n le e = refl
  typed_more (value.atomic o) ty.atomic m n le e = lower o m n le e
  typed_more (value.sequence vs) (ty.sequence x) m n le e = all_more vs x m n le e
  typed_more (value.fields vs) (ty.fields fs) m n le e = each_more vs fs m n le e
  typed_more (value.choice k v) (ty.choice fs) m n le e = grind (arith, nat_tests, at_more, typed_more v)
  typed_more _ _ m n le e = nothing e

  pub all_more : (vs : PlainValues) (x : PlainTy) (m n : ℕ) → m ≤ n → all_typed x m vs ≡ true → all_typed x n vs ≡ true
  all_more value.none x m n le e = refl
  all_more (value.more v vs) x m n le e = grind (arith, typed_more v x m n le, all_more vs x m n le)

  pub each_more : (vs : PlainValues) (fs : PlainFields) (m n : ℕ) → m ≤ n → each_typed fs m vs ≡ true
      → each_typed fs n vs ≡ true
  each_more value.none ty.none m n le e = refl
  each_more (value.more v vs) (ty.more name x fs) m n le e =
      let k = and_parts (is_typed x m v) (each_typed fs m vs) e in
      and_from (is_typed x n v) (each_typed fs n vs) (typed_more v x m n le k.0) (each_more vs fs m n le k.1)
  each_more _ _ m n le e = nothing e

pub typed_at_more : (fs : PlainFields) (t m n : ℕ) (v : PlainValue) → m ≤ n → is_typed_at fs t m v ≡ true
    → is_typed_at fs t n v ≡ true
typed_at_more fs t m n v le e =
    at_more (ty_at fs t) (λ x. is_typed x m v) (λ x. is_typed x n v) (λ x h. typed_more v x m n le h) e

pub fitting_more : (s : PlainShape) (m n : ℕ) (c : PlainContent) → m ≤ n → is_fitting s m c ≡ true
    → is_fitting s n c ≡ true
fitting_more (shape.rec fs) m n (rec vs) le e = each_more (listed vs) fs m n le e
fitting_more (shape.arr t) m n (arr low vs) le e =
    let k = and_parts (is_within low (length vs)) (all_typed t m (listed vs)) e in
    and_from (is_within low (length vs)) (all_typed t n (listed vs)) k.0 (all_more (listed vs) t m n le k.1)
fitting_more (shape.var fs) m n (var t v) le e = typed_at_more fs t m n v le e
fitting_more _ m n _ le e = nothing e

pub fits_more : (s : Option PlainShape) (m n : ℕ) (c : Option PlainContent) → m ≤ n → fits_shape s m c ≡ true
    → fits_shape s n c ≡ true
fits_more s m n c le e = grind (arith, nat_tests, fitting_more)

-- the items of an array after a change

all_set : (t : PlainTy) (n : ℕ) (vs : List PlainValue) (i : ℕ) (v : PlainValue) → is_typed t n v ≡ true
    → all_typed t n (listed vs) ≡ true → all_typed t n (listed (slice_set vs i v)) ≡ true
all_set t n [] i v h e = e
all_set t n (w ∷ vs) zero v h e = grind (arith, nat_tests)
all_set t n (w ∷ vs) (suc i) v h e = grind (arith, nat_tests, all_set t n vs i v h)

all_append : (t : PlainTy) (n : ℕ) (vs : List PlainValue) (v : PlainValue) → is_typed t n v ≡ true
    → all_typed t n (listed vs) ≡ true → all_typed t n (listed (vs ++ v ∷ [])) ≡ true
all_append t n [] v h e = and_from (is_typed t n v) true h refl
all_append t n (w ∷ vs) v h e = grind (arith, nat_tests, all_append t n vs v h)

all_take : (t : PlainTy) (n k : ℕ) (vs : List PlainValue) → all_typed t n (listed vs) ≡ true
    → all_typed t n (listed (take k vs)) ≡ true
all_take t n zero [] e = e
all_take t n zero (w ∷ vs) e = refl
all_take t n (suc k) [] e = e
all_take t n (suc k) (w ∷ vs) e = grind (arith, nat_tests, all_take t n k vs)

all_drop : (t : PlainTy) (n k : ℕ) (vs : List PlainValue) → all_typed t n (listed vs) ≡ true
    → all_typed t n (listed (drop k vs)) ≡ true
all_drop t n zero [] e = e
all_drop t n zero (w ∷ vs) e = e
all_drop t n (suc k) [] e = e
all_drop t n (suc k) (w ∷ vs) e = all_drop t n k vs (and_parts (is_typed t n w) (all_typed t n (listed vs)) e).1

-- what an array's change leaves is an array of such items, if it leaves anything
abbrev items_typed : PlainTy → ℕ → Option PlainContent → Bool
items_typed t n None = true
items_typed t n (Some (arr low vs)) = all_typed t n (listed vs)
items_typed t n (Some (rec vs)) = false
items_typed t n (Some (var k v)) = false

abbrev Typed : PlainTy → ℕ → Outcome → Type 0
Typed t n o = items_typed t n o.0 ≡ true

by_if : {A : Type 0} (P : A → Type 0) (b : Bool) (x y : A) → P x → P y → P (if b then x else y)
by_if P b x y t f = grind (arith, nat_tests)

stored_typed : (t : PlainTy) (n : ℕ) (place : Option ℕ) (v : PlainValue) (low : ℤ) (vs : List PlainValue)
    → is_typed t n v ≡ true → all_typed t n (listed vs) ≡ true → Typed t n (stored_at place v low vs)
stored_typed t n place v low vs h e = grind (arith, nat_tests, all_set)

removed_typed : (t : PlainTy) (n : ℕ) (low : ℤ) (vs : List PlainValue) → all_typed t n (listed vs) ≡ true
    → Typed t n (removed_low low vs)
removed_typed t n low vs e = grind (arith, nat_tests, by_if)

trimmed_typed : (why : Option Signal) (t : PlainTy) (n : ℕ) (from count low : ℤ) (vs : List PlainValue)
    → all_typed t n (listed vs) ≡ true → Typed t n (trimmed why from count low vs)
trimmed_typed why t n from count low vs e = grind (arith, nat_tests, all_take, all_drop)

array_typed : (c : PlainChange) (t : PlainTy) (n : ℕ) (low : ℤ) (vs : List PlainValue)
    → change_suits (shape.arr t) n c ≡ true → all_typed t n (listed vs) ≡ true → Typed t n (array_outcome c low vs)
array_typed c t n low vs h e =
    grind (arith, nat_tests, stored_typed, all_append, all_take, removed_typed, trimmed_typed)

array_fits : (t : PlainTy) (n : ℕ) (c : Option PlainContent) → KeepsLimits c → items_typed t n c ≡ true
    → fits_shape (Some (shape.arr t)) n c ≡ true
array_fits t n c k e = grind (arith, nat_tests, keeps_within)

-- the fields of a record after a change

each_set : (fs : PlainFields) (n : ℕ) (vs : List PlainValue) (i : ℕ) (v : PlainValue) → is_typed_at fs i n v ≡ true
    → each_typed fs n (listed vs) ≡ true → each_typed fs n (listed (slice_set vs i v)) ≡ true
each_set fs n [] i v h e = e
each_set ty.none n (w ∷ vs) i v h e = nothing e
each_set (ty.more name x fs) n (w ∷ vs) zero v h e = grind (arith, nat_tests)
each_set (ty.more name x fs) n (w ∷ vs) (suc i) v h e = grind (arith, nat_tests, each_set fs n vs i v h)

-- what a change leaves of a content of each kind

record_fits : (c : PlainChange) (fs : PlainFields) (n : ℕ) (vs : List PlainValue)
    → change_suits (shape.rec fs) n c ≡ true → each_typed fs n (listed vs) ≡ true
    → fits_shape (Some (shape.rec fs)) n (outcome c (Some (rec vs))).0 ≡ true
record_fits c fs n vs h e = grind (arith, nat_tests, by_if, each_set)

variant_fits : (c : PlainChange) (fs : PlainFields) (n t : ℕ) (v : PlainValue) → change_suits (shape.var fs) n c ≡ true
    → is_typed_at fs t n v ≡ true → fits_shape (Some (shape.var fs)) n (outcome c (Some (var t v))).0 ≡ true
variant_fits c fs n t v h e = grind (arith, nat_tests)

absent_fits : (c : PlainChange) (s : PlainShape) (n : ℕ) → change_suits s n c ≡ true
    → fits_shape (Some s) n (outcome c None).0 ≡ true
absent_fits c s n h = grind (arith, nat_tests)

-- a fitting change leaves a fitting content
pub outcome_fits : (c : PlainChange) (s : PlainShape) (n : ℕ) (content : Option PlainContent)
    → change_suits s n c ≡ true
    → fits_shape (Some s) n content ≡ true → fits_shape (Some s) n (outcome c content).0 ≡ true
outcome_fits c s n None h e = absent_fits c s n h
outcome_fits c (shape.rec fs) n (Some (rec vs)) h e = record_fits c fs n vs h e
outcome_fits c (shape.arr t) n (Some (arr low vs)) h e =
    grind (arith, nat_tests, array_fits, array_keeps, within_keeps, array_typed)
outcome_fits c (shape.var fs) n (Some (var t v)) h e = variant_fits c fs n t v h e
outcome_fits c _ n (Some _) h e = nothing e

-- touching leaves the content
pub touch_keeps : (c : Option PlainContent) → (outcome touch c).0 ≡ c
touch_keeps c = grind (arith, nat_tests)

-- a content that fits keeps the limits
pub fits_keeps : (shape : Option PlainShape) (n : ℕ) (c : Option PlainContent) → fits_shape shape n c ≡ true
    → KeepsLimits c
fits_keeps shape n c e = grind (arith, nat_tests, within_keeps)
