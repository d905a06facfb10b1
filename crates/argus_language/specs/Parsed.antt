-- Why there is no script.
use Rattle.std.specs.Prelude.{◌≡◌, ℕ, List, [], ◌∷◌, Option, Some, None}
use Rattle.argus_language.specs.declared.fault_kind.FaultKind.TheVariants as kind
use Rattle.argus_language.specs.{declared.level.Level.Level, declared.parse_error.ParseError.ParseError}
use Rattle.argus_language.specs.declared.script_fault.ScriptFault.{ScriptFault}
use Rattle.argus_language.specs.declared.parse_error.ParseError.TheVariants as error

-- P holds of the fault of a script; out of memory says nothing
abbrev pub OnScriptFault : ParseError → (ScriptFault → Type 0) → Type 0
OnScriptFault (error.Fault fault) P = P fault
OnScriptFault error.Memory P = Unit {0}

-- the number of the line that opened the innermost block
abbrev pub innermost_line : List Level → Option ℕ
innermost_line [] = None
innermost_line (l ∷ ls) = Some l.line

-- the fault is that the innermost of these isn't closed
abbrev pub IsUnclosedAt : List Level → ParseError → Type 0
IsUnclosedAt ls (error.Fault fault) = (fault.kind ≡ kind.Unclosed) × (innermost_line ls
    ≡ Some fault.line)
IsUnclosedAt ls error.Memory = ⊥
