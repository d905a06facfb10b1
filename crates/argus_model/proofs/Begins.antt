-- Each action that has begun has its begin, which names its parent and its creator.
use Rattle.std.proofs.Common.{List, [], arith, cond, ap, refl, true, ℕ, ⊎_elim, ◌<◌, ◌∙◌, ◌∷◌, ◌≡◌, ◌++◌}
use Rattle.std.proofs.{lemmas.Bool.{cases_eq, ne_eqb}, lemmas.Bool.Decides.nat_tests}
use Rattle.argus_model.specs.{Ancestors.{begun_by, parent}, Status.is_begun}
use Rattle.argus_model.specs.Event.{Aborted, Accessed, Began, Committed, Event, Origin, origin_begun_by, origin_parent}
use Rattle.argus_model.specs.History.{History, ItsBegin, Opened, folded, followed_by, next_action, ◌▹◌}
use Rattle.argus_model.proofs.Live.{is_begun_parts}

followed_more : {V : Type 0} (h : History V) (later : List (Event V)) (e : Event V)
    → followed_by h (later ++ e ∷ []) ≡ e ▹ followed_by h later
followed_more h [] e = refl
followed_more h (d ∷ later) e = followed_more (d ▹ h) later e

later_begin : {V : Type 0} (h : History V) (e : Event V) (a : ℕ) → ItsBegin h a → ItsBegin (e ▹ h) a
later_begin h e a b = grind (arith, nat_tests, followed_more (Began b.from ▹ b.older) b.later e)

begin_of : {V : Type 0} (h : History V) (a : ℕ) → folded h < a → a < next_action h → ItsBegin h a
begin_of (Opened n) a l m = absurd (omega arith)
begin_of (Began from ▹ h) a l m =
    ⊎_elim
    (λ e. record { older = h; from = from; later = []; is = refl; number = e })
    (λ n. later_begin h (Began from) a (begin_of h a l (omega arith)))
    (cases_eq a (next_action h))
begin_of (event ▹ h) a l m = later_begin h event a (begin_of h a l m)

-- an action that has begun has its begin
pub its_begin : {V : Type 0} (h : History V) (a : ℕ) → is_begun h a ≡ true → ItsBegin h a
its_begin h a k = let q = is_begun_parts h a k in begin_of h a q.0 q.1

-- one more event leaves who is the parent of what has begun
parent_stays : {V : Type 0} (h : History V) (e : Event V) (a : ℕ) → a < next_action h → parent (e ▹ h) a ≡ parent h a
parent_stays h (Began from) a l =
    ap (λ b. cond b (origin_parent from) (parent h a)) (ne_eqb a (next_action h) (λ e. omega arith))
parent_stays h _ a l = refl

-- and who began it
begun_by_stays : {V : Type 0} (h : History V) (e : Event V) (a : ℕ) → a < next_action h
    → begun_by (e ▹ h) a ≡ begun_by h a
begun_by_stays h (Began from) a l =
    ap (λ b. cond b (origin_begun_by from) (begun_by h a)) (ne_eqb a (next_action h) (λ e. omega arith))
begun_by_stays h _ a l = refl

-- numbers go up
number_stays : {V : Type 0} (h : History V) (e : Event V) (a : ℕ) → a < next_action h → a < next_action (e ▹ h)
number_stays h (Began from) a l = omega arith
number_stays h _ a l = l

parent_later : {V : Type 0} (h : History V) (later : List (Event V)) (a : ℕ) → a < next_action h
    → parent (followed_by h later) a ≡ parent h a
parent_later h [] a l = refl
parent_later h (e ∷ later) a l = parent_later (e ▹ h) later a (number_stays h e a l) ∙ parent_stays h e a l

begun_by_later : {V : Type 0} (h : History V) (later : List (Event V)) (a : ℕ) → a < next_action h
    → begun_by (followed_by h later) a ≡ begun_by h a
begun_by_later h [] a l = refl
begun_by_later h (e ∷ later) a l = begun_by_later (e ▹ h) later a (number_stays h e a l) ∙ begun_by_stays h e a l

-- the parent is who the begin names, whatever came later
pub begin_names_parent : {V : Type 0} (older : History V) (from : Origin) (later : List (Event V))
    → parent (followed_by (Began from ▹ older) later) (next_action older) ≡ origin_parent from
begin_names_parent older from later = grind (arith, nat_tests, parent_later)

-- the creator is who the begin names, whatever came later
pub begin_names_creator : {V : Type 0} (older : History V) (from : Origin) (later : List (Event V))
    → begun_by (followed_by (Began from ▹ older) later) (next_action older) ≡ origin_begun_by from
begin_names_creator older from later = grind (arith, nat_tests, begun_by_later)
