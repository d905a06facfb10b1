-- What accesses mean, which is all that the model needs to know of contents and operations.
use Rattle.std.specs.Prelude.{Bool, false, not, ◌≡◌}

-- V is what an access does, with its answer; C is what an object holds; A is an answer
pub record Meaning (V C A : Type 0) : Type 0 where
  -- whether it is a write access; every other is a read access
  pub writes : V → Bool
  -- what it leaves of the content that it finds
  pub after : V → C → C
  -- the answer that follows from this content
  pub answer : V → C → A
  -- the answer that was given
  pub recorded : V → A
  -- an access that doesn't write leaves the content as it is
  pub reads_keep : (v : V) → writes v ≡ false → (c : C) → after v c ≡ c

module _ {V C A : Type 0} (meaning : Meaning V C A) where
  -- whether it is a read access
  abbrev pub reads : V → Bool
  reads v = not (meaning.writes v)

  -- the answer that was given is the one that follows from this content
  abbrev pub Fits : V → C → Type 0
  Fits v c = meaning.recorded v ≡ meaning.answer v c
