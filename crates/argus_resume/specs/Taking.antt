-- How much of a text is taken, and why no more.
use Rattle.std.specs.{Io.KnownBytes.{Consumes, IsAtEnd}, Prelude.{◌<◌, ◌==◌, ◌∷◌, ◌≡◌, ◌≢◌, ◌≤◌}}
use Rattle.std.specs.Prelude.{Bool, List, None, Option, Some, [], count_by, drop, false, length, take, true, ℕ, ◌++◌}
use Rattle.argus_journal.specs.JournalView.{JournalView}
use Rattle.argus_resume.specs.{JournalText.journal_text, Lines.IsLineFault, declared.line_fault.LineFault.LineFault}
use Rattle.argus_resume.specs.{declared.read_end.ReadEnd.ReadEnd, declared.taken_end.TakenEnd.TakenEnd}
use Rattle.argus_resume.specs.declared.taken_from.TakenFrom.{TakenFrom}
use Rattle.argus_resume.specs.declared.read_end.ReadEnd.TheVariants as read
use Rattle.argus_resume.specs.declared.taken_end.TakenEnd.TheVariants as taken

-- no line feed is among the bytes
abbrev pub HasNoFeed : List ℕ → Type 0
HasNoFeed [] = Unit {0}
HasNoFeed (b ∷ bytes) = (b ≢ 10) × HasNoFeed bytes

-- how many lines end in the text
abbrev pub line_count : List ℕ → ℕ
line_count text = count_by (λ b. b == 10) text

-- the first line of the text has this many bytes, with its line feed
pub record IsFirstLine (count : ℕ) (text : List ℕ) : Type 0 where
  pub some : 0 < count
  pub within : count ≤ length text
  pub one : line_count (take count text) ≡ 1

-- that line was taken: the journal's listing became longer by it
abbrev pub TakesLine : ℕ → JournalView → JournalView → List ℕ → Type 0
TakesLine count was now text = IsFirstLine count text
    × (journal_text now ≡ journal_text was ++ take count text)

-- the text is torn: bytes without a line feed
abbrev pub IsTorn : List ℕ → Type 0
IsTorn text = (text ≢ []) × HasNoFeed text

-- the first line of the text is at fault after the journal's listing
pub record IsFaulty (journal : JournalView) (text : List ℕ) (fault : LineFault) : Type 0 where
  pub line : List ℕ
  pub more : List ℕ
  pub is : text ≡ line ++ 10 ∷ more
  pub whole : HasNoFeed line
  pub says : IsLineFault fault journal line

-- what an end says of the bytes that are left after the journal's listing; out of memory says
-- nothing
abbrev pub EndsTaking : TakenEnd → JournalView → List ℕ → Type 0
EndsTaking taken.Whole journal left = left ≡ []
EndsTaking taken.Torn journal left = IsTorn left
EndsTaking (taken.Fault fault) journal left = IsFaulty journal left fault
EndsTaking taken.OutOfMemory journal left = Unit {0}

-- what an end says of the bytes that were read and are left, of what the reader then has, and of
-- whether it has failed, which it has exactly if the end is a failed read
abbrev pub EndsReading : ReadEnd → JournalView → List ℕ → Option (List ℕ) → Bool → Type 0
EndsReading read.Whole journal left has failed = (left ≡ []) × IsAtEnd has × (failed ≡ false)
EndsReading read.Torn journal left has failed = IsTorn left × IsAtEnd has × (failed ≡ false)
EndsReading (read.Fault fault) journal left has failed =
    IsFaulty journal left fault × (failed ≡ false)
EndsReading read.OutOfMemory journal left has failed = failed ≡ false
EndsReading read.Read journal left has failed = HasNoFeed left × (failed ≡ true)

-- a journal became longer by the first bytes of what was read from a reader
pub record TakesFrom (old new : JournalView) (had has : Option (List ℕ)) (failed : Bool)
    (taken : TakenFrom) : Type 0 where
  pub read : List ℕ
  pub consumed : Consumes had has read
  pub within : taken.bytes ≤ length read
  pub text : journal_text new ≡ journal_text old ++ take taken.bytes read
  pub lines : taken.lines ≡ line_count (take taken.bytes read)
  pub end : EndsReading taken.end new (drop taken.bytes read) has failed

-- what an end says of a chunk: the bytes that are left are pending, and no line ends in them, or
-- the next line is at fault; out of memory says nothing
abbrev pub EndsChunk : TakenEnd → JournalView → List ℕ → List ℕ → Type 0
EndsChunk taken.Whole journal pending left = (pending ≡ left) × HasNoFeed left
EndsChunk taken.Torn journal pending left = (pending ≡ left) × HasNoFeed left
EndsChunk (taken.Fault fault) journal pending left = IsFaulty journal left fault
EndsChunk taken.OutOfMemory journal pending left = Unit {0}

-- the end if the reader has no more, and these bytes are pending
abbrev pub end_behind : List ℕ → ReadEnd
end_behind [] = read.Whole
end_behind (b ∷ bytes) = read.Torn

-- the end of a text as one of a reader, if it comes before the reader's
abbrev pub early_end : TakenEnd → Option ReadEnd
early_end taken.Whole = None
early_end taken.Torn = None
early_end (taken.Fault fault) = Some (read.Fault fault)
early_end taken.OutOfMemory = Some read.OutOfMemory
