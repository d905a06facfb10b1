-- The row of a new log.
use Rattle.std.specs.Prelude.{ℕ, ℤ, List, [], ◌∷◌, codes}
use Rattle.sqlite.specs.declared.types.Value.TheVariants.{Int, Text as Words}
use Rattle.sqlite.specs.Order.{Row}

abbrev pub begin_text : List ℕ
begin_text = codes "INSERT INTO log VALUES (0, ?1, ?2, 0, 0, 0, ?3)"

-- the log's name, the version that made it, and its first sum
abbrev pub begin_row : List ℕ → List ℕ → ℤ → Row
begin_row name version sum = Words name ∷ Words version ∷ Int sum ∷ []
