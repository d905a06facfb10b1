-- Accesses run one after another on plain contents, without locks, the oldest first.
use Rattle.std.specs.Prelude.{List, [], if◌then◌else◌, ℕ, ◌==◌, ◌∷◌}
use Rattle.argus_model.specs.{Meaning.{Fits, Meaning}, Work.Access}

module _ {V C A : Type 0} (meaning : Meaning V C A) where
  -- the contents of all objects after one access
  abbrev pub after_access : (ℕ → C) → Access V → ℕ → C
  after_access contents e o =
      if e.object == o then meaning.after e.what (contents o) else contents o

  -- each access, run on what those before it left, gives the recorded answer again
  abbrev pub AnswersAgain : (ℕ → C) → List (Access V) → Type 0
  AnswersAgain contents [] = Unit {0}
  AnswersAgain contents (e ∷ later) =
      Fits meaning e.what (contents e.object) × AnswersAgain (after_access contents e) later

  -- the contents of all objects in the end
  abbrev pub run : (ℕ → C) → List (Access V) → ℕ → C
  run contents [] = contents
  run contents (e ∷ later) = run (after_access contents e) later
