-- What each step of a commit needs beforehand.
use Rattle.std.specs.Prelude.{None, Some, length, ◌<◌, ◌≡◌, ◌≤◌}
use Rattle.argus_actions.specs.{Refusals.commit_refusal, Tree.parent_of, declared.action_id.ActionId.ActionId}
use Rattle.argus_entries.specs.{Call.commit, Reply.refused, declared.refusal.Refusal.Refusal}
use Rattle.argus_core.specs.{GuardianState.journal_view_of, declared.engine.commit_step.CommitStep.CommitStep}
use Rattle.argus_core.specs.declared.engine.guardian_state.GuardianState.{GuardianState}
use Rattle.argus_core.specs.declared.engine.commit_step.CommitStep.TheVariants as step
use Rattle.argus_journal.specs.{JournalView.reply_to, LegalJournal.room_in}
use Rattle.argus_objects.specs.Holdings.{HasPlace, holdings_room_of, objects_held_by}
use Rattle.argus_objects.specs.declared.holdings.Holdings.{Holdings}

-- the journal refuses the commit for this reason, and has room for the entry
pub record IsRefused (state : GuardianState) (a : ActionId) (why : Refusal) : Type 0 where
  pub place : 0 < room_in state.journal
  pub right : reply_to (journal_view_of state) (commit a.0) ≡ refused why

-- The parent p can take up the list of a: it has a place for the whole list if its own is empty,
-- and else room for each object.
pub record CanPass (holdings : Holdings) (a p : ActionId) : Type 0 where
  pub place : length (objects_held_by holdings p) ≡ 0 → HasPlace holdings p
  pub room : 0 < length (objects_held_by holdings p)
      → length (objects_held_by holdings a) ≤ holdings_room_of holdings p

-- nothing refuses the commit, and the action has the parent p, which can take up its list, as the
-- journal has room for the entry
pub record CanInherit (state : GuardianState) (a p : ActionId) : Type 0 where
  pub place : 0 < room_in state.journal
  pub free : commit_refusal state.tree a.0 ≡ None
  pub parent : parent_of state.tree a.0 ≡ Some p
  pub room : CanPass state.holdings a p

-- nothing refuses the commit, the action has no parent, and the journal has room for the entry
pub record CanSettle (state : GuardianState) (a : ActionId) : Type 0 where
  pub place : 0 < room_in state.journal
  pub free : commit_refusal state.tree a.0 ≡ None
  pub top : parent_of state.tree a.0 ≡ None

-- what the step needs is there
abbrev pub CanCommit : GuardianState → ActionId → CommitStep → Type 0
CanCommit state a (step.Refused why) = IsRefused state a why
CanCommit state a (step.Inherit parent) = CanInherit state a parent
CanCommit state a step.Settle = CanSettle state a
