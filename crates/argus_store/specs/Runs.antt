-- What a log has, and where it ends, after one append and another.
use Rattle.std.specs.Prelude.{ℕ, List, [], ◌∷◌}
use Rattle.argus_store.specs.{declared.end.End.End, Journal.Journal, End.{end_after, with_lines}}

-- the log with the lines of these appends behind it, each where the one before it ended
abbrev pub with_all : Journal → List ℕ → End → List (List ℕ) → Journal
with_all j name end [] = j
with_all j name end (lines ∷ more) = with_all (with_lines j name end lines) name (end_after name end lines) more

abbrev pub end_behind : List ℕ → End → List (List ℕ) → End
end_behind name end [] = end
end_behind name end (lines ∷ more) = end_behind name (end_after name end lines) more
