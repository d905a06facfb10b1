-- Where an index of an array points.
use Rattle.std.specs.Prelude.{ℕ, ℤ, ◌+ℤ◌, pos, nat_lt, if◌then◌else◌, Option, Some, None, ◌-ℤ◌, int_lt, unsigned_abs}

-- the place of index i, from 0, in an array with this low bound and this many items; `None` out of
-- bounds
abbrev pub place_of : ℤ → ℕ → ℤ → Option ℕ
place_of low size i =
    if int_lt i low then None else
    (if nat_lt (unsigned_abs (i -ℤ low)) size then Some (unsigned_abs (i -ℤ low)) else None)

-- the high bound of an array
abbrev pub high_of : ℤ → ℕ → ℤ
high_of low size = (low +ℤ pos size) -ℤ pos 1
