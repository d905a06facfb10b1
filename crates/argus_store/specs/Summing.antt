-- The sum of a batch, as docs/DURABLE.md has it.
use Rattle.std.specs.Prelude.{ℕ, ◌%◌, ◌/◌, ◌==◌, if◌then◌else◌, bit_xor, fold, decimal, codes, List, ◌++◌, ◌+◌}

-- the last bit goes out, and if it is 1 the polynomial is taken off
unfoldable pub shifted : ℕ → ℕ
shifted rest = if rest % 2 == 1 then bit_xor (rest / 2) 0xedb88320 else rest / 2

-- after one more byte, of eight bits
abbrev pub after_byte : ℕ → ℕ → ℕ
after_byte rest byte =
    shifted (shifted (shifted (shifted (shifted (shifted (shifted (shifted (bit_xor rest byte))))))))

-- the CRC-32 of zlib
abbrev pub crc32 : List ℕ → ℕ
crc32 bytes = bit_xor (fold after_byte 0xffffffff bytes) 0xffffffff

-- of a batch's lines from an entry on, in the log of this name, after the sum before it
abbrev pub log_sum : List ℕ → ℕ → ℕ → List ℕ → ℕ
log_sum name first before lines =
    crc32 (name ++ codes " " ++ decimal first ++ codes " " ++ decimal before ++ codes "\n" ++ lines)

-- one more, if the byte ends a line
abbrev pub after_line_byte : ℕ → ℕ → ℕ
after_line_byte count byte = if byte == 10 then count + 1 else count

-- how many lines there are, each of which but the last ends in a line feed
abbrev pub entries_in : List ℕ → ℕ
entries_in = fold after_line_byte 1
