-- The pairs of parts behind a word: each is told.
use Rattle.std.proofs.Common.{ℕ, List, arith, inl}
use Rattle.std.specs.Prelude.{codes, pos}
use Rattle.argus_contents.specs.Value.{null}
use Rattle.argus_texts.specs.Languages.{Ints, Values}
use Rattle.argus_texts.proofs.{Digits.{ints_clear, numbers_clear}, Stops.Clear}
use Rattle.argus_reading.specs.{Combined.Worded, Operations.{Bytes, Ids}}
use Rattle.argus_reading.proofs.Words.{Joint, worded_clear}

pub bytes_clear : (w : List ℕ) → Clear (Worded w Bytes)
bytes_clear w = worded_clear w Bytes (numbers_clear 0 255 (omega arith))

pub ids_clear : (w : List ℕ) → Clear (Worded w Ids)
ids_clear w = worded_clear w Ids (numbers_clear 0 4294967295 (omega arith))

pub worded_ints_clear : (w : List ℕ) → Clear (Worded w Ints)
worded_ints_clear w = worded_clear w Ints ints_clear

-- an action and an object
pub place_joint : (w : List ℕ) → Joint (Worded w Ids) 32 (Worded (codes "o") Ids)
place_joint w = grind (arith, ids_clear)

-- a number of a field or a tag, and a value
pub byte_joint : (w : List ℕ) → Joint (Worded w Bytes) 32 (Values 16)
byte_joint w = record { clear = bytes_clear w; precedes = λ a y. inl (omega arith); example = null; good = omega arith }

-- an integer and a value
pub int_joint : (w : List ℕ) → Joint (Worded w Ints) 32 (Values 16)
int_joint w =
    record { clear = worded_ints_clear w; precedes = λ a y. inl (omega arith); example = null; good = omega arith }

-- two integers
pub ints_joint : (w : List ℕ) → Joint (Worded w Ints) 32 Ints
ints_joint w =
    record { clear = worded_ints_clear w; precedes = λ a y. inl (omega arith); example = pos 0; good = omega arith }
