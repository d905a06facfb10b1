-- Languages made of others: a word and then a thing, and one of two.
use Rattle.std.specs.Prelude.{ℕ, ◌⊎◌, List, ◌++◌}
use Rattle.std.proofs.Common.{inl, inr}
use Rattle.argus_texts.specs.Language.{Language}

-- a word, and a thing after it
abbrev pub Worded : List ℕ → Language → Language
Worded word L =
    record { Thing = L.Thing; Good = L.Good; form = λ t. word ++ L.form t; Ends = L.Ends }

-- good in its own language
abbrev pub either_good : (L M : Language) → L.Thing ⊎ M.Thing → Type 0
either_good L M (inl a) = L.Good a
either_good L M (inr b) = M.Good b

-- its form there
abbrev pub either_form : (L M : Language) → L.Thing ⊎ M.Thing → List ℕ
either_form L M (inl a) = L.form a
either_form L M (inr b) = M.form b

-- what may come after it there
abbrev pub either_ends : (L M : Language) → L.Thing ⊎ M.Thing → List ℕ → Type 0
either_ends L M (inl a) rest = L.Ends a rest
either_ends L M (inr b) rest = M.Ends b rest

-- a thing of the one or of the other
abbrev pub Either : Language → Language → Language
Either L M = record {
  Thing = L.Thing ⊎ M.Thing;
  Good = either_good L M;
  form = either_form L M;
  Ends = either_ends L M;
}
