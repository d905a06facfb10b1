-- The ints of a line: `0`, or digits without a leading zero, with a sign if negative.
use Rattle.std.specs.Prelude.{ℕ, ℤ, pos, negsuc, ◌+◌, ◌-◌, ◌*◌, ◌==◌, nat_lt, nat_le, Bool, ◌&&◌, if◌then◌else◌, List}
use Rattle.std.specs.{Prelude.{[], ◌∷◌, Option, Some, None}, Option.option_and_then}
use Rattle.argus_language.specs.Lines.{is_empty}

-- a decimal digit
abbrev pub is_digit : ℕ → Bool
is_digit b = nat_le 48 b && nat_le b 57

-- the number with one more digit; `None` if the byte isn't a digit, and past 2^63
abbrev pub with_digit : ℕ → ℕ → Option ℕ
with_digit n b = if is_digit b && nat_le (10 * n + (b - 48)) 9223372036854775808 then Some
    (10 * n + (b - 48)) else None

-- the number that these digits spell after the digits of n
abbrev pub digits_behind : ℕ → List ℕ → Option ℕ
digits_behind n [] = Some n
digits_behind n (b ∷ bs) = option_and_then (λ m. digits_behind m bs) (with_digit n b)

-- the number above 0 that the bytes spell, up to 2^63
abbrev pub positive_of : List ℕ → Option ℕ
positive_of [] = None
positive_of (b ∷ bs) = if b == 48 then None else digits_behind 0 (b ∷ bs)

-- the int of this many above 0, within 64 bits
abbrev pub above_zero : ℕ → Option ℤ
above_zero n = if nat_lt n 9223372036854775808 then Some (pos n) else None

-- the int of this many below 0, within 64 bits
abbrev pub below_zero : ℕ → Option ℤ
below_zero n = if nat_lt 0 n && nat_le n 9223372036854775808 then Some (negsuc (n - 1)) else None

-- the int that the bytes spell
abbrev pub int_of : List ℕ → Option ℤ
int_of [] = None
int_of (b ∷ bs) = if b == 45 then option_and_then below_zero (positive_of bs) else
    (if b == 48 then (if is_empty bs then Some (pos 0) else None) else
    option_and_then above_zero (positive_of (b ∷ bs)))
