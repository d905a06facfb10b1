-- The journal after all live actions are aborted.
use Rattle.std.specs.Prelude.{List, [], filter, ℕ, ◌&&◌, ◌++◌, ◌==◌, ◌∷◌, ◌≡◌}
use Rattle.argus_entries.specs.Call.{abort}
use Rattle.argus_journal.specs.{Events.history, JournalView.{JournalView, after}, Numbering.all_in_program}
use Rattle.argus_model.specs.{Ancestors.parent, History.{History, begun_actions}, Status.is_live}

-- the live actions that have no parent, in increasing number
abbrev pub live_without_parent : {V : Type 0} → History V → List ℕ
live_without_parent h = filter (λ x. is_live h x && parent h x == 0) (begun_actions h)

-- the live topactions, nested ones too, in increasing number
abbrev pub live_topactions : JournalView → List ℕ
live_topactions journal =
    all_in_program (live_without_parent (history journal.opening journal.entries))

-- the journal with one more call for each of these actions, which aborts it, each with its reply
abbrev pub after_aborts : JournalView → List ℕ → JournalView
after_aborts journal [] = journal
after_aborts journal (a ∷ actions) = after_aborts (after journal (abort a)) actions

-- the first of the live topactions were aborted; the others are still live
pub record IsPartlyAborted (old new : JournalView) : Type 0 where
  pub ended : List ℕ
  pub in_turn : live_topactions old ≡ ended ++ live_topactions new
  pub journal : new ≡ after_aborts old ended
