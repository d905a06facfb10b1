-- What is read of an input.
use Rattle.std.specs.{Prelude.{List, Option, length, ℕ, ◌<◌, ◌≤◌}, Io.KnownBytes.{Consumes, IsAtEnd}}

-- bytes were read: all that the reader had, or the first of them up to a limit
pub record ReadUpTo (limit : ℕ) (old new : Option (List ℕ)) (bytes : List ℕ) : Type 0 where
  pub consumed : Consumes old new bytes
  pub most : length bytes ≤ limit
  pub whole : length bytes < limit → IsAtEnd new

-- some bytes of what the reader had were read, at most up to a limit
pub record ReadAtMost (limit : ℕ) (old new : Option (List ℕ)) : Type 0 where
  pub bytes : List ℕ
  pub consumed : Consumes old new bytes
  pub most : length bytes ≤ limit
