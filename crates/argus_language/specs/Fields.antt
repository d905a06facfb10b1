-- The number of a field.
use Rattle.std.specs.{Prelude.{ℕ, ◌+◌, nat_lt, if◌then◌else◌, List, [], ◌∷◌, Option, Some, None}, Str.bytes_eq}
use Rattle.std.specs.Option.{option_and_then}
use Rattle.argus_contents.specs.{Shape.names_of, Ty.PlainFields}

-- the place of a name in a list of names that begins at n
abbrev pub place_from : ℕ → List ℕ → List (List ℕ) → Option ℕ
place_from n name [] = None
place_from n name (x ∷ names) = if bytes_eq x name then Some n else place_from (n + 1) name names

-- a number that a byte can hold, which each field has: a record has at most 64
abbrev pub as_byte : ℕ → Option ℕ
as_byte n = if nat_lt n 256 then Some n else None

-- the number of the field with this name, from 0
abbrev pub field_of : List ℕ → PlainFields → Option ℕ
field_of name fields = option_and_then as_byte (place_from 0 name (names_of fields))
