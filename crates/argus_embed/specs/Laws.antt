-- The laws of a guardian that a host holds.
use Rattle.std.specs.Prelude.{◌≤◌}
use Rattle.argus_guardian.specs.ResumeLaws.{IsListable}
use Rattle.argus_journal.specs.{JournalView.{JournalView, next_entry}, declared.limits.TheConstants.MAX_FIRST_ENTRY}
use Rattle.argus_embed.specs.Embedded.{renewed}

-- What a renewal leaves of a listable journal is listable.
abbrev pub RenewalsLeaveListable : Type 0
RenewalsLeaveListable =
    (journal : JournalView) → IsListable journal → next_entry journal ≤ MAX_FIRST_ENTRY
    → IsListable (renewed journal)
