-- What stands is what is live, and the lists of live children and siblings.
use Rattle.std.proofs.{Common.{arith, refl, true, ℕ, ◌<◌, ◌≡◌, ◌≢◌}, lemmas.List.Folds.list_any-append}
use Rattle.std.proofs.{Math.Bool.{and_comm, or_comm}, lemmas.Bool.Decides.nat_tests, lemmas.Bool.false≢true}
use Rattle.std.specs.{List.{list_all, list_any}, Prelude.{◌&&◌, ◌==◌, ◌||◌}}
use Rattle.argus_model.specs.Ancestors.{begun_by, parent}
use Rattle.argus_model.specs.{Numbers.contains, Status.{is_sibling, live_siblings, has_live_child, is_begun, is_live}}
use Rattle.argus_model.specs.{Event.{Aborted, Accessed, Began, Committed}, OwnerSteps.{standing_child, stands}}
use Rattle.argus_model.specs.History.{History, Opened, begun_actions, folded, next_action, ◌▹◌}
use Rattle.argus_model.proofs.{Ancestors.folded_next, Standing.{Orderly, some_at, stands_unfolded}}
use Rattle.argus_model.proofs.Numbers.{every_from, filter_contains, joined, joined_cases, joined_left, rising-more}
use Rattle.argus_model.proofs.{Numbers.{IsRising, any_agree, contains_filter}, OwnerRules.{owner_self, stands_plain}}

-- a begun action's number is past the folded ones and before the next
pub is_begun_parts : {V : Type 0} (h : History V) (a : ℕ) → is_begun h a ≡ true → (folded h < a) × (a < next_action h)
is_begun_parts h a k = grind (arith, nat_tests)

-- a number past the folded ones and before the next is begun
pub is_begun_from : {V : Type 0} (h : History V) (a : ℕ) → folded h < a → a < next_action h → is_begun h a ≡ true
is_begun_from h a l m = grind (arith, nat_tests)

-- an action other than the base stands where it is live, and only there
pub stands_is_live : {V : Type 0} (h : History V) → Orderly h → (a : ℕ) → a ≢ 0 → stands h a ≡ is_live h a
stands_is_live h w a n =
    grind (arith, nat_tests, stands_plain, is_begun_from, stands_unfolded, is_begun_parts, some_at, owner_self)

-- a live action stands, and is not the base
pub live_stands : {V : Type 0} (h : History V) → Orderly h → (a : ℕ) → is_live h a ≡ true
    → (a ≢ 0) × (stands h a ≡ true)
live_stands h w a l = grind (arith, nat_tests, is_begun_parts, stands_is_live)

-- each number past the folded ones and before the next is listed as begun
pub begun_contains : {V : Type 0} (h : History V) (x : ℕ) → folded h < x → x < next_action h
    → contains (begun_actions h) x ≡ true
begun_contains (Opened n) x l m = absurd (omega arith)
begun_contains (Began from ▹ h) x l m = grind (arith, nat_tests, joined, joined_left, begun_contains h x l)
begun_contains (_ ▹ h) x l m = begun_contains h x l m

-- who is listed as begun has a number before the next
pub begun_below : {V : Type 0} (h : History V) (x : ℕ) → contains (begun_actions h) x ≡ true → x < next_action h
begun_below (Opened n) x m = absurd (false≢true m)
begun_below (Began from ▹ h) x m = grind (arith, nat_tests, begun_below h x, joined_cases)
begun_below (_ ▹ h) x m = begun_below h x m

-- who is listed as begun has a number past the folded ones
pub contains_unfolded : {V : Type 0} (h : History V) (x : ℕ) → contains (begun_actions h) x ≡ true → folded h < x
contains_unfolded (Opened n) x m = absurd (false≢true m)
contains_unfolded (Began from ▹ h) x m = grind (arith, nat_tests, folded_next, contains_unfolded h x, joined_cases)
contains_unfolded (_ ▹ h) x m = contains_unfolded h x m

-- begun actions are listed in increasing number
pub begun_rising : {V : Type 0} (h : History V) → IsRising (begun_actions h)
begun_rising (Opened n) = tt
begun_rising (Began from ▹ h) = rising-more (begun_actions h) (next_action h) (begun_rising h) (begun_below h)
begun_rising (_ ▹ h) = begun_rising h

children_in : {V : Type 0} (h k : History V) (y : ℕ)
    → standing_child h y k ≡ list_any (λ x. stands h x && (parent k x == y || begun_by k x == y)) (begun_actions k)
children_in h (Opened n) y = refl
children_in h (Began from ▹ k) y =
    grind (arith, nat_tests, and_comm, children_in h k y, or_comm, any_agree, begun_below k, list_any-append)
children_in h (_ ▹ k) y = children_in h k y

-- who has a child that stands has a live child, and the other way round
pub child_is : {V : Type 0} (h : History V) → Orderly h → (y : ℕ) → standing_child h y h ≡ has_live_child h y
child_is h w y = grind (arith, nat_tests, children_in h h y, any_agree, contains_unfolded h, stands_is_live h w)

-- the list of live siblings has each live sibling, and no other
pub contains_siblings : {V : Type 0} (h : History V) (a x : ℕ)
    → contains (live_siblings h a) x ≡ (is_live h x && is_sibling h a x)
contains_siblings h a x =
    grind (arith, nat_tests, contains_filter, is_begun_parts h x, filter_contains, begun_contains h x)

-- all who are listed as live siblings are live
pub siblings_live : {V : Type 0} (h : History V) (a : ℕ) → list_all (is_live h) (live_siblings h a) ≡ true
siblings_live h a = grind (arith, nat_tests, every_from (is_live h) (live_siblings h a), contains_siblings h a)

-- the list of begun actions has each of them, and no other
pub begun_listed : {V : Type 0} (h : History V) (a : ℕ) → contains (begun_actions h) a ≡ is_begun h a
begun_listed h a =
    grind (arith, nat_tests, is_begun_from, contains_unfolded, begun_below, is_begun_parts, begun_contains)
