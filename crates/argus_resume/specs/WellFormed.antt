-- What is true of each value that a program can hold, and of contents and changes.
use Rattle.std.specs.Prelude.{List, None, Option, Some, [], ℕ, ◌∷◌}
use Rattle.argus_contents.specs.{Change.PlainChange, Content.PlainContent, Shape.{IsMakeable, PlainShape}}
use Rattle.argus_contents.specs.Value.{PlainValue, PlainValues}
use Rattle.argus_texts.specs.{ContentSpelling.PartsWithin, Spelling.{AllWithin, Within}}
use Rattle.argus_entries.specs.Laws.{ChangeWithin}

-- a value of some depth: its numbers are in range, and its texts in UTF-8
abbrev pub IsWellFormedValue : PlainValue → Type 0
IsWellFormedValue v = (depth : ℕ) × Within depth v

-- the same of each of the values
abbrev pub AreWellFormedValues : PlainValues → Type 0
AreWellFormedValues vs = (depth : ℕ) × AllWithin depth vs

-- the same of each value of the content
abbrev pub IsWellFormedContent : PlainContent → Type 0
IsWellFormedContent c = (depth : ℕ) × PartsWithin depth c

-- the same of a content if there is one
abbrev pub IsWellFormedOption : Option PlainContent → Type 0
IsWellFormedOption None = Unit {0}
IsWellFormedOption (Some c) = IsWellFormedContent c

-- an object whose shape can be made, and whose content is such
abbrev pub IsWellFormedObject : PlainShape × Option PlainContent → Type 0
IsWellFormedObject object = IsMakeable object.0 × IsWellFormedOption object.1

-- each of the objects is such an object
abbrev pub AreWellFormedObjects : List (PlainShape × Option PlainContent) → Type 0
AreWellFormedObjects [] = Unit {0}
AreWellFormedObjects (object ∷ objects) = IsWellFormedObject object × AreWellFormedObjects objects

-- the same of each value of the change, whose numbers are in range, too
abbrev pub IsWellFormedChange : PlainChange → Type 0
IsWellFormedChange c = (depth : ℕ) × ChangeWithin depth c
