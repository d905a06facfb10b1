-- A text that is written out now and then: what was added to it, and what was written of it.
use Rattle.std.specs.{Io.KnownBytes.Appends, Prelude.{List, Option, take, ℕ, ◌++◌, ◌≡◌}}

-- the text was added: a prefix of what was pending with it is written, the rest is pending now
abbrev pub Added : Option (List ℕ) → List ℕ → Option (List ℕ) → List ℕ → List ℕ → Type 0
Added old pending new still text =
    (written : List ℕ) × Appends old new written × (pending ++ text ≡ written ++ still)

-- no more was written than a prefix of what was pending and then this text
abbrev pub Cut : Option (List ℕ) → List ℕ → Option (List ℕ) → List ℕ → Type 0
Cut old pending new text = (n : ℕ) × Appends old new (take n (pending ++ text))
