-- When a text has the form of a name.
use Rattle.std.specs.{Prelude.{ℕ, Bool, ◌&&◌, ◌||◌, nat_le, nat_lt, ◌==◌, List, length}, List.list_all}
use Rattle.argus_contents.specs.declared.limits.TheConstants.{MAX_NAME_BYTES}

-- a lower-case letter, a digit or `_`
abbrev pub is_name_byte : ℕ → Bool
is_name_byte b = (nat_le 97 b && nat_le b 122) || (nat_le 48 b && nat_le b 57) || b == 95

-- 1 to 32 such bytes
abbrev pub is_name : List ℕ → Bool
is_name text =
    nat_lt 0 (length text) && nat_le (length text) MAX_NAME_BYTES && list_all is_name_byte text
