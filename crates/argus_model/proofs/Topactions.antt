-- The serial order is the work of the committed topactions, one after another.
use Rattle.std.proofs.Common.{arith, false, refl, true, ℕ, ◌≡◌}
use Rattle.std.proofs.{lemmas.Bool.{both_ways, cases_Bool, false_from_ne_true}, lemmas.Bool.Decides.nat_tests}
use Rattle.std.specs.Prelude.{◌==◌}
use Rattle.argus_model.specs.{Ancestors.parent, Numbers.contains}
use Rattle.argus_model.specs.{Event.{Aborted, Accessed, Began, Committed, Event}, History.{History, Opened, ◌▹◌}}
use Rattle.argus_model.specs.{OwnerSteps.stands, Status.has_committed, Work.{all_of, committed_topactions, work}}
use Rattle.argus_model.proofs.OwnerRules.{stands_plain}
use Rattle.argus_model.proofs.{Standing.{Orderly, parent_is, parents_are_older}, Work.{all_of_agree, work_final}}

-- who is listed as a committed topaction has committed
pub tops_committed : {V : Type 0} (h : History V) (z : ℕ) → contains (committed_topactions h) z ≡ true
    → has_committed h z ≡ true
tops_committed (Opened n) z m = m
tops_committed (Committed s ▹ h) z m = grind (arith, nat_tests, tops_committed h z)
tops_committed (_ ▹ h) z m = tops_committed h z m

-- who is listed as a committed topaction doesn't stand
pub tops_over : {V : Type 0} (h : History V) → Orderly h → (z : ℕ) → contains (committed_topactions h) z ≡ true
    → stands h z ≡ false
tops_over h w z m =
    false_from_ne_true (stands h z) (λ l. both_ways (has_committed h z) (stands_plain h w z l).1 (tops_committed h z m))

-- one more event leaves the work of the topactions that had committed
pub tops_same : {V : Type 0} (h : History V) (e : Event V) → Orderly h → Orderly (e ▹ h)
    → all_of (work (e ▹ h)) (committed_topactions h) ≡ all_of (work h) (committed_topactions h)
tops_same h e w w' =
    all_of_agree (work (e ▹ h)) (work h) (committed_topactions h) (λ z m. work_final h e w' z (tops_over h w z m))

-- the work of the base is that of the committed topactions, the last to commit first
pub serial_tops : {V : Type 0} (h : History V) → Orderly h → work h 0 ≡ all_of (work h) (committed_topactions h)
serial_tops (Opened n) w = refl
serial_tops (Accessed a o v ▹ h) w = grind (arith, nat_tests, serial_tops h w.1, tops_same h (Accessed a o v) w.1 w)
serial_tops (Committed s ▹ h) w =
    grind (
      arith,
      nat_tests,
      parent_is h (parents_are_older h w.1) s w.0.not_base w.0.standing,
      parents_are_older h w.1,
      serial_tops h w.1,
      tops_same h (Committed s) w.1 w,
      cases_Bool (parent h s == 0),
    )
serial_tops (_ ▹ h) w = serial_tops h w.1
