-- What a run reads and writes.
use Rattle.std.specs.Prelude.{Bool, List, [], false, if◌then◌else◌, nat_le, take, true, ℕ, ◌&&◌, ◌<◌, ◌≡◌, ◌⊎◌}
use Rattle.std.specs.Io.KnownBytes.{Appends}
use Rattle.argus_cli.specs.{ByWorkers.IsLeftByWorkers, declared.cli_fault.CliFault.CliFault}
use Rattle.argus_cli.specs.declared.run_options.Options.{Options}
use Rattle.argus_cli.specs.Streams.{AreFine, HasReaderFailed, HasWriterFailed, RunStreams}
use Rattle.argus_cli.specs.declared.cli_fault.CliFault.TheVariants as fault
use Rattle.argus_commands.specs.{Fault.{IsFaultOf, NoFault}, Lines.lines_of, Script.{PlainScript, Spells}}
use Rattle.argus_commands.specs.{language_declared.script_fault.ScriptFault.ScriptFault, Played.IsPlay}
use Rattle.argus_commands.specs.Input.{ReadAtMost, ReadUpTo}
use Rattle.argus_guardian.specs.{Checkpoint.{after_checkpoint, is_quiet}, Listing.listing_of}
use Rattle.argus_journal.specs.{Folding.next_entry_number, Opening.empty, declared.limits.TheConstants.MAX_FIRST_ENTRY}
use Rattle.argus_journal.specs.JournalView.{JournalView}

-- the journal of a new guardian
abbrev pub new_journal : JournalView
new_journal = record { opening = empty; entries = [] }

-- there can be a checkpoint: no action is live, and the next entry's number is within the limit
abbrev pub may_fold : JournalView → Bool
may_fold j = is_quiet j && nat_le (next_entry_number j.opening j.entries) MAX_FIRST_ENTRY

-- the journal after the option: folded if a checkpoint is asked for and there can be one
abbrev pub checkpointed : Bool → JournalView → JournalView
checkpointed false j = j
checkpointed true j = if may_fold j then after_checkpoint j else j

-- The bytes spell the script without a faulty line, and its run after a new journal, with the
-- options, leaves this one: with one worker the arms of a coenter run one after another.
pub record RunsTo (bytes : List ℕ) (options : Options) (script : PlainScript)
    (journal : JournalView) : Type 0 where
  pub spelled : Spells (lines_of bytes) script
  pub fine : NoFault (lines_of bytes)
  pub left : JournalView
  pub alone : options.workers ≡ 1 → IsPlay new_journal script left
  pub together : 1 < options.workers → IsLeftByWorkers script left
  pub folded : journal ≡ checkpointed options.checkpoint left

-- The text is the listing of the guardian on which the script that the bytes spell was run.
pub record ListsRun (bytes : List ℕ) (options : Options) (text : List ℕ) : Type 0 where
  pub script : PlainScript
  pub journal : JournalView
  pub runs : RunsTo bytes options script journal
  pub listed : text ≡ listing_of options.listing script.objects.names journal

-- A run that succeeded: what was read up to the limit spells a script, the listing was written, and
-- neither stream has failed.
pub record Ran (options : Options) (limit : ℕ) (before after : RunStreams) : Type 0 where
  pub bytes : List ℕ
  pub read : ReadUpTo limit before.input after.input bytes
  pub text : List ℕ
  pub lists : ListsRun bytes options text
  pub written : Appends before.output after.output text
  pub fine : AreFine after

-- a run whose script was refused: this is the fault of what was read, and nothing was written
pub record Refused (limit : ℕ) (before after : RunStreams) (f : ScriptFault) : Type 0 where
  pub bytes : List ℕ
  pub read : ReadUpTo limit before.input after.input bytes
  pub fault : IsFaultOf (lines_of bytes) f
  pub kept : after.output ≡ before.output

-- a run whose listing was cut short: a prefix of it was written
pub record CutShort (options : Options) (limit : ℕ) (before after : RunStreams) : Type 0 where
  pub bytes : List ℕ
  pub read : ReadUpTo limit before.input after.input bytes
  pub text : List ℕ
  pub lists : ListsRun bytes options text
  pub count : ℕ
  pub written : Appends before.output after.output (take count text)

-- a run that came to no listing: no more was read than the limit, and nothing was written
pub record Unlisted (limit : ℕ) (before after : RunStreams) : Type 0 where
  pub read : ReadAtMost limit before.input after.input
  pub kept : after.output ≡ before.output

-- what a run that failed like this has read and written
abbrev pub RunFailed : Options → ℕ → RunStreams → RunStreams → CliFault → Type 0
RunFailed options limit before after (fault.Script f) = AreFine after × Refused limit before after f
RunFailed options limit before after fault.Memory =
    AreFine after × (Unlisted limit before after ⊎ CutShort options limit before after)
RunFailed options limit before after fault.Read =
    HasReaderFailed after × Unlisted limit before after
RunFailed options limit before after fault.Write =
    HasWriterFailed after × CutShort options limit before after
