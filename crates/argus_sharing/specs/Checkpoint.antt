-- What a checkpoint of a shared guardian returns.
use Rattle.std.specs.Prelude.{Option, Some, false, true, ◌<◌, ◌↔◌, ◌≡◌}
use Rattle.argus_core.specs.{Checkpoint.is_quiet, declared.checkpoint_error.CheckpointError.CheckpointError}
use Rattle.argus_core.specs.declared.checkpoint_error.CheckpointError.TheVariants.{Busy, Full}
use Rattle.argus_journal.specs.{declared.limits.TheConstants.MAX_FIRST_ENTRY, JournalView.{JournalView, next_entry}}

-- busy if an action is live; full if none is, and the next entry's number is past the limit
abbrev pub IsCheckpointAnswer : JournalView → Option CheckpointError → Type 0
IsCheckpointAnswer journal error = ((error ≡ Some Busy) ↔ (is_quiet journal ≡ false))
    × ((error ≡ Some Full) ↔ ((is_quiet journal ≡ true) × (MAX_FIRST_ENTRY < next_entry journal)))
