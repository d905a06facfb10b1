-- The first faulty line of a script, by the opening lines that are still unmatched before it, and
-- the arm lines directly in them. Lines are counted from 0.
use Rattle.std.specs.Prelude.{◌≡◌, ℕ, ◌+◌, ◌<◌, ◌⊎◌, ◌∷◌, if◌then◌else◌, List, [], length, take, Bool, get_or, sum_by}
use Rattle.std.specs.Prelude.{Option, Some, None}
use Rattle.argus_language.specs.{Fault.{HasWordFault, WordsAreFine, is_bad, is_past_limits}, Objects.PlainObjects}
use Rattle.argus_language.specs.{OpeningLines.{command_at, may_stand_at, unmatched}, Script.Declares}
use Rattle.argus_language.specs.{declared.fault_kind.FaultKind.FaultKind, declared.script_fault.ScriptFault.ScriptFault}
use Rattle.argus_language.specs.declared.fault_kind.FaultKind.TheVariants as kind

-- the line at i goes past a limit, with this many objects declared before it
abbrev pub is_past_limits_at : List (List ℕ) → ℕ → ℕ → Bool
is_past_limits_at lines i objects =
    is_past_limits i (sum_by length (take i lines)) (length (unmatched lines i)) objects
    (get_or lines i [])

-- what is wrong with the line at i before its names and texts are tested
abbrev pub fault_at : List (List ℕ) → ℕ → ℕ → Option FaultKind
fault_at lines i objects = if is_past_limits_at lines i objects then Some kind.TooLong else
    (if is_bad (command_at lines i) then Some kind.BadWord else
    (if may_stand_at lines i then None else Some kind.Misplaced))

-- the line at i has a fault of this kind
pub record IsFaultyLine (lines : List (List ℕ)) (i : ℕ) (k : FaultKind) : Type 0 where
  pub within : i < length lines
  pub objects : PlainObjects
  pub declared : Declares (take i lines) objects
  pub fault : (fault_at lines i (length objects.names) ≡ Some k)
      ⊎ ((fault_at lines i (length objects.names) ≡ None)
      × HasWordFault (command_at lines i) objects k)

-- the line at i has no fault
pub record IsFineLine (lines : List (List ℕ)) (i : ℕ) : Type 0 where
  pub within : i < length lines
  pub objects : PlainObjects
  pub declared : Declares (take i lines) objects
  pub fine : (fault_at lines i (length objects.names) ≡ None)
      × WordsAreFine (command_at lines i) objects

-- none of the first n lines has a fault
abbrev pub AreFineLines : List (List ℕ) → ℕ → Type 0
AreFineLines lines n = (i : ℕ) → i < n → IsFineLine lines i

-- The first faulty line with its kind, numbered from 1; or no line is faulty, and of the opening
-- lines that are unmatched at the end this is the innermost.
abbrev pub IsFirstFaultyLine : List (List ℕ) → ScriptFault → Type 0
IsFirstFaultyLine lines fault =
    ((i : ℕ) × (fault.line ≡ i + 1) × IsFaultyLine lines i fault.kind × AreFineLines lines i)
    ⊎ ((fault.kind ≡ kind.Unclosed) × AreFineLines lines (length lines) × (i : ℕ)
    × (outer : List ℕ) × (fault.line ≡ i + 1) × (unmatched lines (length lines) ≡ i ∷ outer))

-- no line is faulty, and no opening line is unmatched at the end
abbrev pub HasNoFaultyLine : List (List ℕ) → Type 0
HasNoFaultyLine lines = AreFineLines lines (length lines) × (unmatched lines (length lines) ≡ [])
