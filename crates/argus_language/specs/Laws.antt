-- The laws of scripts.
use Rattle.std.specs.Prelude.{◌≡◌, ◌↔◌, ℕ, List}
use Rattle.argus_language.specs.{Fault.{IsFaultOf, NoFault}, FaultyLines.{HasNoFaultyLine, IsFirstFaultyLine}}
use Rattle.argus_language.specs.{Script.{PlainScript, Spells}, declared.script_fault.ScriptFault.ScriptFault}

-- lines spell at most one script
abbrev pub SpellOneScript : Type 0
SpellOneScript =
    (lines : List (List ℕ)) (a b : PlainScript) → Spells lines a → Spells lines b → a ≡ b

-- the fault of a script by its levels is the one by its unmatched opening lines, and if there is
-- none by one of the two, there is none by the other
abbrev pub LevelsTellUnmatchedLines : Type 0
LevelsTellUnmatchedLines = (lines : List (List ℕ))
    → ((fault : ScriptFault) → IsFaultOf lines fault ↔ IsFirstFaultyLine lines fault)
    × (NoFault lines ↔ HasNoFaultyLine lines)
