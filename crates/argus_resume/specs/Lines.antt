-- What a line may be after a journal's listing, and what a fault says of one that isn't the next.
use Rattle.std.specs.Prelude.{List, [], codes, false, length, true, ℕ, ◌++◌, ◌<◌, ◌^◌, ◌∷◌, ◌≡◌, ◌≢◌, ◌≤◌, ◌⊎◌, Option}
use Rattle.std.specs.Str.{IsUtf8, IsValidUpTo}
use Rattle.argus_contents.specs.{Content.PlainContent, Shape.PlainShape}
use Rattle.argus_contents.specs.declared.limits.TheConstants.{MAX_ACTIONS, MAX_OBJECTS}
use Rattle.argus_entries.specs.{Entry.PlainEntry, EntrySpelling.entry_spelling, Reply.{PlainReply, plain_reply}}
use Rattle.argus_journal.specs.{JournalView.{JournalView, next_entry, reply_to}, Opening.is_sound}
use Rattle.argus_journal.specs.declared.limits.TheConstants.{MAX_FIRST_ENTRY}
use Rattle.argus_listings.specs.Listing.{folded_line, opened_line}
use Rattle.argus_reading.specs.Line.{IsNoLine, IsReadable, LacksShape}
use Rattle.argus_texts.specs.{Language.Starts, Languages.Word}
use Rattle.argus_resume.specs.{JournalText.IsReadableObject, declared.line_error.LineError.LineError}
use Rattle.argus_resume.specs.declared.line_fault.LineFault.{LineFault}
use Rattle.argus_resume.specs.declared.line_error.LineError.TheVariants as error
use Rattle.argus_resume.specs.declared.line_fault.LineFault.TheVariants as fault

-- OPENINGS

-- the line begins with the word of an opening's lines
abbrev pub IsOfOpening : List ℕ → Type 0
IsOfOpening line = Starts (Word (codes "opening ")) line

-- the line begins an opening: nothing came before it, and it says how many entries, at least one,
-- and actions did
pub record BeginsOpening (journal : JournalView) (line : List ℕ) : Type 0 where
  pub entries : ℕ
  pub actions : ℕ
  pub first : next_entry journal ≡ 0
  pub some : 0 < entries
  pub entries_within : entries ≤ MAX_FIRST_ENTRY
  pub actions_within : actions ≤ MAX_ACTIONS
  pub is : line ++ 10 ∷ [] ≡ folded_line entries actions

-- the line adds an object to an opening: no entry came before it, and there may be one more object
pub record AddsObject (journal : JournalView) (line : List ℕ) : Type 0 where
  pub object : PlainShape × Option PlainContent
  pub opened : 0 < journal.opening.first_entry
  pub none : journal.entries ≡ []
  pub room : length journal.opening.objects < MAX_OBJECTS
  pub readable : IsReadableObject object
  pub is : line ++ 10 ∷ [] ≡ opened_line (length journal.opening.objects) object

-- the line may be the next one of an opening
abbrev pub IsNextOfOpening : JournalView → List ℕ → Type 0
IsNextOfOpening journal line = BeginsOpening journal line ⊎ AddsObject journal line

-- ENTRIES

-- the line is that of this entry, which can be read, and has this number
pub record IsLineOf (number : ℕ) (entry : PlainEntry) (line : List ℕ) : Type 0 where
  pub readable : IsReadable entry
  pub is : line ≡ entry_spelling number entry

-- the line is that of an entry, with another number than the next one
pub record HasOtherNumber (journal : JournalView) (line : List ℕ) : Type 0 where
  pub number : ℕ
  pub entry : PlainEntry
  pub in_range : number < 2 ^ 64
  pub of : IsLineOf number entry line
  pub other : number ≢ next_entry journal

-- the line is that of the next entry, and the opening before it isn't sound
pub record IsBehindUnsound (journal : JournalView) (line : List ℕ) : Type 0 where
  pub entry : PlainEntry
  pub of : IsLineOf (next_entry journal) entry line
  pub unsound : is_sound journal.opening ≡ false

-- the line is that of the next entry, whose reply isn't this one, which follows from the journal
pub record HasOtherReply (journal : JournalView) (line : List ℕ) (given : PlainReply) : Type 0 where
  pub entry : PlainEntry
  pub of : IsLineOf (next_entry journal) entry line
  pub sound : is_sound journal.opening ≡ true
  pub gives : given ≡ reply_to journal entry.call
  pub other : entry.reply ≢ given

-- what a fault says of a line after a journal's listing
abbrev pub IsLineFault : LineFault → JournalView → List ℕ → Type 0
IsLineFault (fault.NoText at) journal line = (IsUtf8 line → ⊥) × IsValidUpTo line at
IsLineFault fault.NotAnOpening journal line =
    IsUtf8 line × IsOfOpening line × (IsNextOfOpening journal line → ⊥)
IsLineFault (fault.NoLine at) journal line =
    IsUtf8 line × (IsOfOpening line → ⊥) × (IsNoLine line at ⊎ LacksShape line at)
IsLineFault fault.NotNext journal line = HasOtherNumber journal line
IsLineFault fault.NotSound journal line = IsBehindUnsound journal line
IsLineFault (fault.NotTheReply reply) journal line = HasOtherReply journal line (plain_reply reply)

-- what an error says of a line; out of memory says nothing
abbrev pub IsLineError : LineError → JournalView → List ℕ → Type 0
IsLineError (error.Fault fault) journal line = IsLineFault fault journal line
IsLineError error.OutOfMemory journal line = Unit {0}
