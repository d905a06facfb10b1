-- The first faulty line of a script, and why it is faulty.
use Rattle.std.specs.Prelude.{◌≡◌, ℕ, ◌+◌, ◌<◌, nat_lt, nat_le, Bool, true, false, ◌&&◌, ◌||◌, if◌then◌else◌, ◌⊎◌, List}
use Rattle.std.specs.Prelude.{[], ◌∷◌, fold, length, take, codes, slice_get, Option, Some, None, is_some}
use Rattle.std.specs.{Option.option_and_then, Str.bytes_eq}
use Rattle.argus_contents.specs.{Shape.{PlainShape, rec, arr, var}, Ty.PlainFields}
use Rattle.argus_contents.specs.declared.limits.TheConstants.{MAX_OBJECTS}
use Rattle.argus_texts.specs.{Fault.{IsContentText, IsValueText}, ShapeSpelling.IsShapeText}
use Rattle.argus_language.specs.{Command.{Command, command_of}, Fields.field_of, Lines.{ended, line_text, word}}
use Rattle.argus_language.specs.{Levels.{depth_of, levels_after, may_follow}, Script.Declares}
use Rattle.argus_language.specs.{Objects.{PlainObjects, number_of, shape_at}, declared.fault_kind.FaultKind.FaultKind}
use Rattle.argus_language.specs.Operation.{Operation, of_any, of_record, of_array, of_variant}
use Rattle.argus_language.specs.{declared.level.Level.Level, declared.limits.TheConstants.MAX_SCRIPT_BYTES}
use Rattle.argus_language.specs.declared.limits.TheConstants.{MAX_LINES, MAX_LINE_BYTES, MAX_OPEN_BLOCKS}
use Rattle.argus_language.specs.declared.script_fault.ScriptFault.{ScriptFault}
use Rattle.argus_language.specs.Command as command
use Rattle.argus_language.specs.Operation as operation
use Rattle.argus_language.specs.declared.fault_kind.FaultKind.TheVariants as kind

-- What comes before a line: how many lines and bytes, and what is open.
pub record Position : Type 0 where
  pub lines : ℕ
  pub bytes : ℕ
  pub levels : List Level

-- the position after this many lines and bytes, with this open
abbrev pub position_at : ℕ → ℕ → List Level → Position
position_at lines bytes levels = record { lines = lines; bytes = bytes; levels = levels }

-- what comes before the next line
abbrev pub position_after : Position → List ℕ → Position
position_after p line = record {
  lines = p.lines + 1;
  bytes = p.bytes + length line;
  levels = levels_after (command_of (line_text line)) (p.lines + 1) p.levels;
}

-- what comes after all these lines
abbrev pub position_behind : List (List ℕ) → Position
position_behind lines = fold position_after (position_at 0 0 []) lines

-- the first word opens a block
abbrev pub opens_block : List ℕ → Bool
opens_block verb =
    bytes_eq verb (codes "enter") || (bytes_eq verb (codes "coenter") || bytes_eq verb (codes "if"))

-- by its first word a line goes past a limit, with this many blocks open and this many objects
-- declared
abbrev pub is_past_counts : ℕ → ℕ → List ℕ → Bool
is_past_counts blocks objects verb = (nat_le MAX_OPEN_BLOCKS blocks && opens_block verb)
    || (nat_le MAX_OBJECTS objects && bytes_eq verb (codes "declare"))

-- a line goes past a limit, after this many lines and bytes, open blocks and declared objects
abbrev pub is_past_limits : ℕ → ℕ → ℕ → ℕ → List ℕ → Bool
is_past_limits lines bytes blocks objects line =
    (nat_lt MAX_LINE_BYTES (length (ended line)) || nat_lt MAX_SCRIPT_BYTES (bytes + length line))
    || (nat_le MAX_LINES lines || is_past_counts blocks objects (word (line_text line)))

-- by its first word a line goes past a limit: of blocks that are open, or of objects
abbrev pub is_one_too_many : Position → ℕ → List ℕ → Bool
is_one_too_many p objects verb = is_past_counts (depth_of p.levels) objects verb

-- a limit is passed: of a line's bytes, of a script's bytes, of lines, of blocks or of objects
abbrev pub is_too_long : Position → ℕ → List ℕ → Bool
is_too_long p objects line = is_past_limits p.lines p.bytes (depth_of p.levels) objects line

-- the words aren't a command
abbrev pub is_bad : Command → Bool
is_bad command.bad = true
is_bad c = false

-- what is wrong with a command, except for its names and texts
abbrev pub place_fault : Command → List Level → Option FaultKind
place_fault c levels = if is_bad c then Some kind.BadWord else
    (if may_follow c levels then None else Some kind.Misplaced)

-- what is wrong with a name of a field or a tag
abbrev pub field_fault : List ℕ → PlainFields → Option FaultKind
field_fault name fs = if is_some (field_of name fs) then None else Some kind.UnknownName

-- what is wrong with an operation on an object of this shape, except for its text
abbrev pub operation_fault : Operation (List ℕ) → PlainShape → Option FaultKind
operation_fault (of_any o) s = None
operation_fault (of_record name o) (rec fs) = field_fault name fs
operation_fault (of_array o) (arr t) = None
operation_fault (of_variant name o) (var fs) = field_fault name fs
operation_fault o s = Some kind.BadType

-- what is wrong with an access to the object that was found, except for its text
abbrev pub access_fault : Operation (List ℕ) → Option PlainShape → Option FaultKind
access_fault o None = Some kind.UnknownName
access_fault o (Some s) = operation_fault o s

-- the shape of the object with this name
abbrev pub shape_of : List ℕ → PlainObjects → Option PlainShape
shape_of name os = option_and_then (shape_at os) (number_of name os)

-- what is wrong with the names of a command
abbrev pub name_fault : Command → PlainObjects → Option FaultKind
name_fault (command.declare name shape) os =
    if is_some (number_of name os) then Some kind.NameTwice else None
name_fault (command.test l name) os =
    if is_some (number_of name os) then None else Some kind.UnknownName
name_fault (command.access name o) os = access_fault o (shape_of name os)
name_fault c os = None

-- what is wrong with a line before its names and texts are tested
abbrev pub line_fault : Position → ℕ → List ℕ → Option FaultKind
line_fault p objects line = if is_too_long p objects line then Some kind.TooLong else
    place_fault (command_of (line_text line)) p.levels

-- the text of an operation isn't a written form, which is a fault of this kind
abbrev pub OperationTextFault : Operation (List ℕ) → FaultKind → Type 0
OperationTextFault (of_any (operation.create text)) k =
    (k ≡ kind.BadValue) × (IsContentText text → ⊥)
OperationTextFault (of_record name (operation.set text)) k =
    (k ≡ kind.BadValue) × (IsValueText text → ⊥)
OperationTextFault (of_array (operation.store i text)) k =
    (k ≡ kind.BadValue) × (IsValueText text → ⊥)
OperationTextFault (of_array (operation.addh text)) k = (k ≡ kind.BadValue) × (IsValueText text → ⊥)
OperationTextFault (of_array (operation.addl text)) k = (k ≡ kind.BadValue) × (IsValueText text → ⊥)
OperationTextFault (of_variant name (operation.change_tag text)) k =
    (k ≡ kind.BadValue) × (IsValueText text → ⊥)
OperationTextFault o k = ⊥

-- the text of a command isn't a written form, which is a fault of this kind
abbrev pub TextFault : Command → FaultKind → Type 0
TextFault (command.declare name shape) k = (k ≡ kind.BadType) × (IsShapeText shape → ⊥)
TextFault (command.access name o) k = OperationTextFault o k
TextFault c k = ⊥

-- the text of an operation, if it has one, is a written form
abbrev pub OperationTextIsFine : Operation (List ℕ) → Type 0
OperationTextIsFine (of_any (operation.create text)) = IsContentText text
OperationTextIsFine (of_record name (operation.set text)) = IsValueText text
OperationTextIsFine (of_array (operation.store i text)) = IsValueText text
OperationTextIsFine (of_array (operation.addh text)) = IsValueText text
OperationTextIsFine (of_array (operation.addl text)) = IsValueText text
OperationTextIsFine (of_variant name (operation.change_tag text)) = IsValueText text
OperationTextIsFine o = Unit {0}

-- the text of a command, if it has one, is a written form
abbrev pub TextIsFine : Command → Type 0
TextIsFine (command.declare name shape) = IsShapeText shape
TextIsFine (command.access name o) = OperationTextIsFine o
TextIsFine c = Unit {0}

-- what a command says of objects, with its arguments, has a fault of this kind; texts are tested
-- last
abbrev pub HasWordFault : Command → PlainObjects → FaultKind → Type 0
HasWordFault c os k = (name_fault c os ≡ Some k) ⊎ ((name_fault c os ≡ None) × TextFault c k)

-- it has no fault
abbrev pub WordsAreFine : Command → PlainObjects → Type 0
WordsAreFine c os = (name_fault c os ≡ None) × TextIsFine c

-- the line has a fault of this kind
abbrev pub HasFault : Position → PlainObjects → List ℕ → FaultKind → Type 0
HasFault p os line k = (line_fault p (length os.names) line ≡ Some k)
    ⊎ ((line_fault p (length os.names) line ≡ None) × HasWordFault (command_of
    (line_text line)) os k)

-- the line has no fault
abbrev pub IsFine : Position → PlainObjects → List ℕ → Type 0
IsFine p os line =
    (line_fault p (length os.names) line ≡ None) × WordsAreFine (command_of (line_text line)) os

-- the line at i, counted from 0, has no fault
pub record FineAt (lines : List (List ℕ)) (i : ℕ) : Type 0 where
  pub line : List ℕ
  pub here : slice_get lines i ≡ Some line
  pub objects : PlainObjects
  pub declared : Declares (take i lines) objects
  pub fine : IsFine (position_behind (take i lines)) objects line

-- none of the first n lines has a fault
abbrev pub FineBefore : List (List ℕ) → ℕ → Type 0
FineBefore lines n = (i : ℕ) → i < n → FineAt lines i

-- the line at i is the first that has a fault, and this is its kind
pub record FirstFault (lines : List (List ℕ)) (i : ℕ) (k : FaultKind) : Type 0 where
  pub line : List ℕ
  pub here : slice_get lines i ≡ Some line
  pub objects : PlainObjects
  pub declared : Declares (take i lines) objects
  pub fault : HasFault (position_behind (take i lines)) objects line k
  pub before : FineBefore lines i

-- no line has a fault, and blocks are open at the end, the innermost since the line with this
-- number
pub record Unclosed (lines : List (List ℕ)) (number : ℕ) : Type 0 where
  pub innermost : Level
  pub outer : List Level
  pub levels : (position_behind lines).levels ≡ innermost ∷ outer
  pub line : innermost.line ≡ number
  pub before : FineBefore lines (length lines)

-- The fault of a script: its first faulty line, numbered from 1; if there is none, the block that
-- isn't closed.
abbrev pub IsFaultOf : List (List ℕ) → ScriptFault → Type 0
IsFaultOf lines fault = ((i : ℕ) × (fault.line ≡ i + 1) × FirstFault lines i fault.kind)
    ⊎ ((fault.kind ≡ kind.Unclosed) × Unclosed lines fault.line)

-- no line has a fault, and no block is open at the end
pub record NoFault (lines : List (List ℕ)) : Type 0 where
  pub fine : FineBefore lines (length lines)
  pub closed : (position_behind lines).levels ≡ []
