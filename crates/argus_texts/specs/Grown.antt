-- A text that had bytes appended.
use Rattle.std.specs.Prelude.{◌≡◌, ℕ, List, [], ◌∷◌, ◌++◌}
use Rattle.argus_contents.specs.Value.{PlainValues, none, more}
use Rattle.argus_texts.specs.{Spelling.spelling, Bytes.comma}

-- new is old and then more
pub record Grew (old new : List ℕ) : Type 0 where
  pub tail : List ℕ
  pub is : new ≡ old ++ tail

-- a comma and a value, for each of them
abbrev pub commas : PlainValues → List ℕ
commas none = []
commas (more v vs) = comma ∷ (spelling v ++ commas vs)
