-- What became of actions, as contracts see it.
use Rattle.std.specs.Prelude.{None, Option, Some, false, if◌then◌else◌, nat_lt, ℕ, ◌<◌, ◌≡◌, ◌≤◌}
use Rattle.argus_actions.specs.declared.status.Status.{Status}
use Rattle.argus_actions.specs.declared.status.Status.TheVariants.{Aborted, Committed, Folded, Live}
use Rattle.argus_journal.specs.{Events.history, JournalFacts.is_live_in, JournalView.JournalView, Numbering.in_history}
use Rattle.argus_model.specs.{History.next_action, Status.{IsAborted, IsCommitted, IsFolded, IsLive, status}}
use Rattle.argus_model.specs.Status as model

-- an action's status, in the program's words
abbrev pub program_status : model.Status → Status
program_status IsLive = Live
program_status IsCommitted = Committed
program_status IsAborted = Aborted
program_status IsFolded = Folded

-- the action's status by the journal; none if it wasn't begun
abbrev pub status_in : JournalView → ℕ → Option Status
status_in journal a =
    if nat_lt (in_history a) (next_action (history journal.opening journal.entries)) then Some
    (program_status (status (history journal.opening journal.entries) (in_history a))) else None

-- no action from the first number up to the second is live
abbrev pub NoneLiveBetween : JournalView → ℕ → ℕ → Type 0
NoneLiveBetween journal from bound =
    (a : ℕ) → from ≤ a → a < bound → is_live_in journal.opening journal.entries a ≡ false

-- no action from this number on is live
abbrev pub NoneLiveFrom : JournalView → ℕ → Type 0
NoneLiveFrom journal from =
    (a : ℕ) → from ≤ a → is_live_in journal.opening journal.entries a ≡ false
