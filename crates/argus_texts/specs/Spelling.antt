-- The one written form of a value, and the values that a text can spell.
use Rattle.std.specs.Prelude.{ℕ, ℤ, pos, negsuc, ◌<◌, ◌^◌, ◌-◌, ◌==◌, if◌then◌else◌, true, false, List, [], ◌∷◌, ◌++◌}
use Rattle.std.specs.{Prelude.codes, Fmt.{decimal, signed_decimal}, Str.IsUtf8}
use Rattle.argus_contents.specs.Value.{PlainValue, PlainValues}
use Rattle.argus_contents.specs.Value as value
use Rattle.argus_texts.specs.Bytes.{at_sign, backslash, close_brace, close_bracket, colon, comma, greater_than}
use Rattle.argus_texts.specs.Bytes.{less_than, letter_n, line_feed, open_brace, open_bracket, quote}

-- a byte of a text: the quote, the backslash and the line feed are escaped by a backslash, the line
-- feed as `n`
abbrev pub escape : ℕ → List ℕ
escape b = if b == quote then backslash ∷ quote ∷ [] else
    (if b == backslash then backslash ∷ backslash ∷ [] else
    (if b == line_feed then backslash ∷ letter_n ∷ [] else b ∷ []))

-- the bytes of a text
abbrev pub escaped : List ℕ → List ℕ
escaped [] = []
escaped (b ∷ bs) = escape b ++ escaped bs

abbrev mutual
  -- the written form of a value
  pub spelling : PlainValue → List ℕ
  spelling value.null = codes "null"
  spelling (value.bool true) = codes "true"
  spelling (value.bool false) = codes "false"
  spelling (value.int n) = signed_decimal n
  spelling (value.text t) = quote ∷ (escaped t ++ quote ∷ [])
  spelling (value.atomic o) = at_sign ∷ decimal o
  spelling (value.sequence vs) = open_bracket ∷ inside close_bracket vs
  spelling (value.fields vs) = open_brace ∷ inside close_brace vs
  spelling (value.choice t v) = less_than ∷ (decimal t ++ colon ∷ (spelling v ++ greater_than ∷ []))

  -- values with commas between them, and the closing byte
  pub inside : ℕ → PlainValues → List ℕ
  inside close value.none = close ∷ []
  inside close (value.more v vs) = spelling v ++ behind close vs

  -- what comes after a value, up to the closing byte
  pub behind : ℕ → PlainValues → List ℕ
  behind close value.none = close ∷ []
  behind close (value.more v vs) = comma ∷ (spelling v ++ behind close vs)

-- an integer of 64 bits
abbrev pub IsI64 : ℤ → Type 0
IsI64 (pos n) = n < 2 ^ 63
IsI64 (negsuc n) = n < 2 ^ 63

abbrev mutual
  -- a value of depth at most k, that a program can hold: its numbers in range, its texts in UTF-8
  pub Within : ℕ → PlainValue → Type 0
  Within k value.null = 0 < k
  Within k (value.bool b) = 0 < k
  Within k (value.int n) = (0 < k) × IsI64 n
  Within k (value.text t) = (0 < k) × IsUtf8 t
  Within k (value.atomic o) = (0 < k) × (o < 2 ^ 32)
  Within k (value.sequence vs) = (0 < k) × AllWithin (k - 1) vs
  Within k (value.fields vs) = (0 < k) × AllWithin (k - 1) vs
  Within k (value.choice t v) = (0 < k) × (t < 2 ^ 8) × Within (k - 1) v

  -- each of the values is such a value
  pub AllWithin : ℕ → PlainValues → Type 0
  AllWithin k value.none = Unit {0}
  AllWithin k (value.more v vs) = Within k v × AllWithin k vs
