-- Where references occur in a content, and that each names a declared object if the content fits.
use Rattle.std.proofs.Common.{Bool, List, Option, Some, [], ap, arith, false, inr, nat_lt, refl, sym, true, ℕ, ⊎_elim}
use Rattle.std.proofs.{Common.{◌++◌, ◌<◌, ◌∙◌, ◌∷◌, ◌≡◌}, lemmas.Bool.{Decides.nat_tests, eq-eqb, eqb-true, or_cases}}
use Rattle.std.{proofs.lemmas.Bool.{and_from, and_parts}, specs.{List.list_all, Prelude.{◌==◌, ◌||◌}}}
use Rattle.argus_contents.specs.{Content.{PlainContent, arr, rec, var}, Fitting.is_fitting, Shape.PlainShape}
use Rattle.argus_contents.specs.{Ty.{PlainFields, PlainTy}, Typing.{all_typed, each_typed, is_typed, ty_at}}
use Rattle.argus_contents.specs.Value.{PlainValue, PlainValues, listed}
use Rattle.argus_journal.specs.{Opening.fits_shape, References.{IsPart, IsPartOfOne, OccursIn, all_references}}
use Rattle.argus_journal.{specs.References.{references, references_in}, proofs.Fitting.{at_type, nothing}}
use Rattle.argus_model.{specs.Numbers.contains, proofs.Numbers.{every_at, joined, joined_cases, joined_left}}
use Rattle.argus_contents.specs.Shape as shape
use Rattle.argus_contents.specs.Ty as ty
use Rattle.argus_contents.specs.Value as value

abbrev Named : ℕ → List ℕ → Type 0
Named n os = list_all (λ o. nat_lt o n) os ≡ true

both_named : (n : ℕ) (xs ys : List ℕ) → Named n xs → Named n ys → Named n (xs ++ ys)
both_named n [] ys h k = k
both_named n (x ∷ xs) ys h k = grind (arith, nat_tests, both_named n xs ys)

of_type : (t : Option PlainTy) (test : PlainTy → Bool) (P : Type 0) → ((x : PlainTy) → test x ≡ true → P)
    → at_type test t ≡ true → P
of_type t test P f e = grind (arith, nat_tests)

mutual
  value_named : (v : PlainValue) (t : PlainTy) (n : ℕ) → is_typed t n v ≡ true → Named n (references v)
  value_named (value.atomic o) ty.atomic n e = and_from (nat_lt o n) true e refl
  value_named (value.sequence vs) (ty.sequence x) n e = all_named vs x n e
  value_named (value.fields vs) (ty.fields fs) n e = each_named vs fs n e
  value_named (value.choice k v) (ty.choice fs) n e = grind (arith, nat_tests, of_type, value_named v)
  value_named value.null t n e = refl
  value_named (value.bool b) t n e = refl
  value_named (value.int i) t n e = refl
  value_named (value.text b) t n e = refl
  value_named _ _ n e = nothing e

  all_named : (vs : PlainValues) (x : PlainTy) (n : ℕ) → all_typed x n vs ≡ true → Named n (all_references vs)
  all_named value.none x n e = refl
  all_named (value.more v vs) x n e =
      let k = and_parts (is_typed x n v) (all_typed x n vs) e in
      both_named n (references v) (all_references vs) (value_named v x n k.0) (all_named vs x n k.1)

  each_named : (vs : PlainValues) (fs : PlainFields) (n : ℕ) → each_typed fs n vs ≡ true → Named n (all_references vs)
  each_named value.none ty.none n e = refl
  each_named (value.more v vs) (ty.more name x fs) n e =
      let k = and_parts (is_typed x n v) (each_typed fs n vs) e in
      both_named n (references v) (all_references vs) (value_named v x n k.0) (each_named vs fs n k.1)
  each_named _ _ n e = nothing e

fitting_named : (s : PlainShape) (n : ℕ) (c : PlainContent) → is_fitting s n c ≡ true → Named n (references_in (Some c))
fitting_named (shape.rec fs) n (rec vs) e = each_named (listed vs) fs n e
fitting_named (shape.arr t) n (arr low vs) e = grind (arith, nat_tests, all_named)
fitting_named (shape.var fs) n (var k v) e =
    of_type (ty_at fs k) (λ x. is_typed x n v) (Named n (references v)) (λ x h. value_named v x n h) e
fitting_named _ n _ e = nothing e

-- each reference in a content that fits names one of the n declared objects
pub fits_named : (s : Option PlainShape) (n : ℕ) (c : Option PlainContent) → fits_shape s n c ≡ true
    → Named n (references_in c)
fits_named s n c e = grind (arith, nat_tests, fitting_named)

-- a reference is listed exactly where it occurs

abbrev is_reference : PlainValue → Bool
is_reference (value.atomic o) = true
is_reference value.null = false
is_reference (value.bool b) = false
is_reference (value.int i) = false
is_reference (value.text t) = false
is_reference (value.sequence vs) = false
is_reference (value.fields vs) = false
is_reference (value.choice t v) = false

abbrev named : PlainValue → ℕ
named (value.atomic o) = o
named _ = 0

-- a reference is no value of another kind
other : {A : Type 0} (r : ℕ) (v : PlainValue) → is_reference v ≡ false → value.atomic r ≡ v → A
other r v n e = nothing (sym n ∙ sym (ap is_reference e))

one_listed : (r o : ℕ) → contains (o ∷ []) r ≡ true → r ≡ o
one_listed r o m = ⊎_elim (λ k. eqb-true r o k) (λ k. nothing k) (or_cases (r == o) false m)

one_is : (r o : ℕ) → r ≡ o → contains (o ∷ []) r ≡ true
one_is r o e = ap (λ b. b || false) (eq-eqb r o e)

mutual
  listed_occurs : (v : PlainValue) (r : ℕ) → contains (references v) r ≡ true → IsPart (value.atomic r) v
  listed_occurs (value.atomic o) r m = ap value.atomic (one_listed r o m)
  listed_occurs (value.sequence vs) r m = inr (some_occurs vs r m)
  listed_occurs (value.fields vs) r m = inr (some_occurs vs r m)
  listed_occurs (value.choice t v) r m = inr (listed_occurs v r m)
  listed_occurs _ r m = nothing m

  some_occurs : (vs : PlainValues) (r : ℕ) → contains (all_references vs) r ≡ true → IsPartOfOne (value.atomic r) vs
  some_occurs value.none r m = nothing m
  some_occurs (value.more v vs) r m = grind (arith, listed_occurs v r, some_occurs vs r, joined_cases)

mutual
  occurs_listed : (v : PlainValue) (r : ℕ) → IsPart (value.atomic r) v → contains (references v) r ≡ true
  occurs_listed (value.atomic o) r e = one_is r o (ap named e)
  occurs_listed (value.sequence vs) r e = ⊎_elim (λ k. other r (value.sequence vs) refl k) (λ k. some_listed vs r k) e
  occurs_listed (value.fields vs) r e = ⊎_elim (λ k. other r (value.fields vs) refl k) (λ k. some_listed vs r k) e
  occurs_listed (value.choice t v) r e = ⊎_elim (λ k. other r (value.choice t v) refl k) (λ k. occurs_listed v r k) e
  occurs_listed _ r e = other r _ refl e

  some_listed : (vs : PlainValues) (r : ℕ) → IsPartOfOne (value.atomic r) vs → contains (all_references vs) r ≡ true
  some_listed value.none r e = absurd e
  some_listed (value.more v vs) r e = grind (arith, joined_left, joined, occurs_listed v r, some_listed vs r)

pub listed_in : (c : Option PlainContent) (r : ℕ) → contains (references_in c) r ≡ true → OccursIn r c
listed_in c r m = grind (arith, nat_tests, some_occurs, listed_occurs)

pub occurring_in : (c : Option PlainContent) (r : ℕ) → OccursIn r c → contains (references_in c) r ≡ true
occurring_in c r e = grind (arith, nat_tests, some_listed, occurs_listed)

-- so what occurs in a content that fits is declared
pub occurring_below : (s : Option PlainShape) (n r : ℕ) (c : Option PlainContent) → fits_shape s n c ≡ true
    → OccursIn r c → r < n
occurring_below s n r c e o = grind (arith, nat_tests, every_at, fits_named, occurring_in)
