-- The bytes that are escaped in a text.
use Rattle.std.specs.Prelude.{◌≡◌, ◌≢◌, ℕ, ◌⊎◌}
use Rattle.argus_texts.specs.Bytes.{backslash, letter_n, line_feed, quote}

-- a quote, a backslash or a line feed
abbrev pub IsSpecial : ℕ → Type 0
IsSpecial b = (b ≡ quote) ⊎ ((b ≡ backslash) ⊎ (b ≡ line_feed))

-- it doesn't come after a backslash
abbrev pub IsNoEscape : ℕ → Type 0
IsNoEscape b = (b ≢ quote) × (b ≢ backslash) × (b ≢ letter_n)
