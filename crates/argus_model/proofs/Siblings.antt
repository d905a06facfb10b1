-- Creators are older, and which actions are under the live siblings of an action.
use Rattle.std.proofs.{lemmas.Bool.Decides.nat_tests, Common.{arith, true, ℕ, ◌<◌, ◌≡◌}, lemmas.Bool.and_parts}
use Rattle.std.specs.{List.list_any, List.Sorted.IsStrictlyIncreasing, Prelude.{not, ◌&&◌}}
use Rattle.argus_model.specs.{Ancestors.{begun_by, is_under, lineage}, History.{History, Opened, HistoryOpening, ◌▹◌}}
use Rattle.argus_model.specs.{Lawful.Lawful, Meaning.Meaning, Event.{Aborted, Accessed, Began, Committed}}
use Rattle.argus_model.specs.Status.{has_committed, is_begun, is_doomed, is_live, is_sibling, live_siblings}
use Rattle.argus_model.proofs.Ancestors.{next_pos}
use Rattle.argus_model.proofs.{Theorems.ancestor_live, Numbers.{any_found, any_from, increasing, rising_filter}}
use Rattle.argus_model.proofs.Live.{begun_rising, contains_siblings, is_begun_from, is_begun_parts}

-- a live action is begun
pub live_begun : {V : Type 0} (h : History V) (a : ℕ) → is_live h a ≡ true → is_begun h a ≡ true
live_begun h a l = (and_parts (is_begun h a) (not (has_committed h a) && not (is_doomed h a)) l).0

-- live siblings are listed in increasing number
pub siblings_increase : {V : Type 0} (h : History V) (a : ℕ) → IsStrictlyIncreasing (live_siblings h a)
siblings_increase h a = grind (arith, nat_tests, increasing, rising_filter, begun_rising)

module _ {V C A : Type 0} (meaning : Meaning V C A) (opening : HistoryOpening C) where
  -- a creator is older than what it began
  pub creator_older : (h : History V) (a : ℕ) → Lawful meaning opening h → is_begun h a ≡ true → begun_by h a < a
  creator_older (Opened n) a l k = let q = is_begun_parts {V = V} (Opened n) a k in omega (arith, q.0)
  creator_older (Began from ▹ h) a l k =
      grind (arith, nat_tests, is_begun_parts, next_pos h, live_begun, creator_older h a l.1, is_begun_from)
  creator_older (_ ▹ h) a l k = creator_older h a l.1 k

  -- a live action is under a live sibling of a where one of its lineage is a sibling of a
  pub under_siblings : (h : History V) (a x : ℕ) → Lawful meaning opening h → is_live h x ≡ true
      → is_under h (live_siblings h a) x ≡ list_any (is_sibling h a) (lineage h x)
  under_siblings h a x l k =
      grind (arith, nat_tests, any_found, any_from, contains_siblings h a, ancestor_live meaning opening h)
