-- What a replay reads and writes.
use Rattle.std.specs.Io.KnownBytes.{Appends}
use Rattle.std.specs.Prelude.{List, None, Option, Some, false, if◌then◌else◌, take, ℕ, ◌+◌, ◌==◌, ◌≡◌, ◌⊎◌}
use Rattle.argus_cli.specs.Streams.{AreFine, HasReaderFailed, HasWriterFailed, RunStreams}
use Rattle.argus_cli.specs.{declared.faulty_line.FaultyLine.FaultyLine, declared.replay_error.ReplayError.ReplayError}
use Rattle.argus_cli.specs.declared.replay_options.ReplayOptions.{ReplayOptions}
use Rattle.argus_cli.specs.declared.text_fault.TextFault.{TextFault}
use Rattle.argus_cli.specs.declared.replay_error.ReplayError.TheVariants as error
use Rattle.argus_cli.specs.declared.text_fault.TextFault.TheVariants as text
use Rattle.argus_guardian.specs.{Listing.{listing_of, numbered_names}, Resumed.IsResumed}
use Rattle.argus_guardian.specs.{listings_declared.listing.Listing.Listing, resume_declared.read_end.ReadEnd.ReadEnd}
use Rattle.argus_guardian.specs.resume_declared.resumed.Resumed.{Resumed}
use Rattle.argus_guardian.specs.resume_declared.line_fault.LineFault.TheVariants as line
use Rattle.argus_guardian.specs.resume_declared.read_end.ReadEnd.TheVariants as end
use Rattle.argus_journal.specs.{JournalView.JournalView, Objects.declared}

-- the listing of a journal with its objects under their numbers
abbrev pub numbered_listing : Listing → JournalView → List ℕ
numbered_listing listing journal =
    listing_of listing (numbered_names (declared journal.opening journal.entries)) journal

-- the line after this many, with this fault
abbrev pub line_behind : ℕ → TextFault → FaultyLine
line_behind lines fault = record { line = lines + 1; fault = fault }

-- Which line after the ones that were taken is at fault, by how many bytes of an opening were
-- dropped, and by the reason why no more were taken. A text that ends with an opening of which
-- lines were dropped is no listing: the opening isn't sound. An end by lack of memory or by a
-- failed read names no line.
abbrev pub IsFaultBehind : ℕ → ℕ → ReadEnd → Option FaultyLine → Type 0
IsFaultBehind lines dropped end.Whole faulty = faulty
    ≡ (if dropped == 0 then None else Some (line_behind lines (text.Line line.NotSound)))
IsFaultBehind lines dropped end.Torn faulty = faulty ≡ Some (line_behind lines text.Torn)
IsFaultBehind lines dropped (end.Fault fault) faulty =
    faulty ≡ Some (line_behind lines (text.Line fault))
IsFaultBehind lines dropped end.OutOfMemory faulty = ⊥
IsFaultBehind lines dropped end.Read faulty = ⊥

-- A replay that succeeded: this guardian was made of what was read, this line, if any, was at
-- fault, which only a prefix allows, the listing was written, and neither stream has failed.
pub record Replayed (options : ReplayOptions) (before after : RunStreams)
    (faulty : Option FaultyLine) : Type 0 where
  pub resumed : Resumed
  pub made : IsResumed before.input after.input after.input_failed resumed
  pub fault : IsFaultBehind resumed.lines resumed.dropped resumed.end faulty
  pub whole : options.prefix ≡ false → faulty ≡ None
  pub written : Appends before.output after.output
      (numbered_listing options.listing resumed.guardian)
  pub fine : AreFine after

-- a replay whose text was refused: this line of what was read is at fault, and nothing was written
pub record RefusedText (options : ReplayOptions) (before after : RunStreams)
    (faulty : FaultyLine) : Type 0 where
  pub resumed : Resumed
  pub made : IsResumed before.input after.input after.input_failed resumed
  pub fault : IsFaultBehind resumed.lines resumed.dropped resumed.end (Some faulty)
  pub asked : options.prefix ≡ false
  pub kept : after.output ≡ before.output

-- a replay whose listing was cut short: a prefix of it was written
pub record ReplayCutShort (options : ReplayOptions) (before after : RunStreams) : Type 0 where
  pub resumed : Resumed
  pub made : IsResumed before.input after.input after.input_failed resumed
  pub count : ℕ
  pub written : Appends before.output after.output
      (take count (numbered_listing options.listing resumed.guardian))

-- what a replay that failed like this has read and written
abbrev pub ReplayFailed : ReplayOptions → RunStreams → RunStreams → ReplayError → Type 0
ReplayFailed options before after (error.Line faulty) =
    AreFine after × RefusedText options before after faulty
ReplayFailed options before after error.OutOfMemory =
    AreFine after × ((after.output ≡ before.output) ⊎ ReplayCutShort options before after)
ReplayFailed options before after error.Read =
    HasReaderFailed after × (after.output ≡ before.output)
ReplayFailed options before after error.Write =
    HasWriterFailed after × ReplayCutShort options before after
