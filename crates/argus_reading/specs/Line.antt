-- The lines that are read, and where a text stops being the beginning of one.
use Rattle.std.specs.{Fmt.decimal, Prelude.{◌≡◌, ℕ, ◌<◌, ◌≤◌, ◌^◌, ◌++◌, List, codes, drop, length, take}}
use Rattle.argus_contents.specs.declared.limits.TheConstants.{MAX_VALUE_DEPTH}
use Rattle.argus_texts.specs.{Fault.IsFault, Language.{Language, Starts}, Languages.{Numbers, Pairs}}
use Rattle.argus_texts.specs.ShapeLanguages.{BeginsNo, Shapes}
use Rattle.argus_entries.specs.{Entry.PlainEntry, EntrySpelling.entry_spelling, Laws.ReplyWithin}
use Rattle.argus_reading.specs.{Calls.{Calls, IsReadableCall}, Combined.Worded, Operations.blank, Replies.Replies}
use Rattle.argus_reading.specs.declared.read_entry_error.ReadEntryError.{ReadEntryError}
use Rattle.argus_reading.specs.declared.read_entry_error.ReadEntryError.TheVariants as error

-- an entry that has a line: its numbers are in range, its values of depth at most 16, and a shape
-- that it declares can be made
abbrev pub IsReadable : PlainEntry → Type 0
IsReadable e = IsReadableCall e.call × ReplyWithin MAX_VALUE_DEPTH e.reply

-- text is the line of such an entry, without its end
pub record IsEntryLine (text : List ℕ) : Type 0 where
  pub number : ℕ
  pub entry : PlainEntry
  pub in_range : number < 2 ^ 64
  pub readable : IsReadable entry
  pub is : text ≡ entry_spelling number entry

-- text is a number and the word of a declaration up to the byte, and no shape begins after it, so
-- it isn't a line
pub record LacksShape (text : List ℕ) (at : ℕ) : Type 0 where
  pub number : ℕ
  pub in_range : number < 2 ^ 64
  pub front : take at text ≡ decimal number ++ codes " declare "
  pub within : at ≤ length text
  pub shape : BeginsNo Shapes (drop at text)
  pub refused : IsEntryLine text → ⊥

-- text isn't a line, and lacks no shape: at is the length of its longest front that begins a line
pub record IsNoLine (text : List ℕ) (at : ℕ) : Type 0 where
  pub fault : IsFault IsEntryLine text at
  pub shaped : (before : ℕ) → LacksShape text before → ⊥

-- what an error says of a text; out of memory says nothing
abbrev pub Tells : ReadEntryError → List ℕ → Type 0
Tells (error.Fault fault) text = IsNoLine text fault.at
Tells (error.Shape fault) text = LacksShape text fault.at
Tells error.OutOfMemory text = Unit {0}

-- numbers of entries
abbrev pub Ordinals : Language
Ordinals = Numbers 0 18446744073709551615

-- calls with their replies
abbrev pub Entries : Language
Entries = Pairs Calls blank (Worded (codes "-> ") Replies)

-- lines
abbrev pub Lines : Language
Lines = Pairs Ordinals blank Entries

-- front is the word of a declaration
abbrev pub Declares : List ℕ → Type 0
Declares front = front ≡ codes "declare "

-- front is the same after a number
abbrev pub DeclaresAt : List ℕ → Type 0
DeclaresAt front = (number : ℕ) × (number < 2 ^ 64) × (front ≡ decimal number ++ codes " declare ")

-- behind each such prefix of text a shape begins
abbrev pub Shaped : (List ℕ → Type 0) → List ℕ → Type 0
Shaped Lead text = (front back : List ℕ) → text ≡ front ++ back → Lead front → BeginsNo Shapes back → ⊥

-- text begins with no form: after such a prefix a shape had to begin where this many bytes are
-- left, and none does
pub record Lacks (Lead : List ℕ → Type 0) (L : Language) (text : List ℕ) (left : ℕ) : Type 0 where
  pub front : List ℕ
  pub back : List ℕ
  pub whole : text ≡ front ++ back
  pub count : length back ≡ left
  pub lead : Lead front
  pub no_way : Starts L text → ⊥
  pub shape : BeginsNo Shapes back
