-- The bytes of ASCII that written forms use, by name.
use Rattle.std.specs.Prelude.{ℕ}

-- a line feed
abbrev pub line_feed : ℕ
line_feed = 10

-- `"`
abbrev pub quote : ℕ
quote = 34

-- `,`
abbrev pub comma : ℕ
comma = 44

-- `-`
abbrev pub hyphen : ℕ
hyphen = 45

-- `:`
abbrev pub colon : ℕ
colon = 58

-- `<`
abbrev pub less_than : ℕ
less_than = 60

-- `>`
abbrev pub greater_than : ℕ
greater_than = 62

-- `@`
abbrev pub at_sign : ℕ
at_sign = 64

-- `[`
abbrev pub open_bracket : ℕ
open_bracket = 91

-- `\`
abbrev pub backslash : ℕ
backslash = 92

-- `]`
abbrev pub close_bracket : ℕ
close_bracket = 93

-- `f`
abbrev pub letter_f : ℕ
letter_f = 102

-- `n`
abbrev pub letter_n : ℕ
letter_n = 110

-- `t`
abbrev pub letter_t : ℕ
letter_t = 116

-- `{`
abbrev pub open_brace : ℕ
open_brace = 123

-- `}`
abbrev pub close_brace : ℕ
close_brace = 125
