-- The languages of the readers.
use Rattle.std.specs.{Prelude.{◌≡◌, ◌≢◌, ℕ, ℤ, ◌<◌, ◌≤◌, ◌⊎◌, List, [], ◌∷◌, ◌++◌}, Fmt.{decimal, signed_decimal}}
use Rattle.std.specs.Str.{IsUtf8}
use Rattle.argus_contents.specs.{Value.{PlainValue, PlainValues}, Content.PlainContent}
use Rattle.argus_contents.specs.Value as value
use Rattle.argus_texts.specs.Spelling.{spelling, escaped, inside, behind, IsI64, Within, AllWithin}
use Rattle.argus_texts.specs.{ContentSpelling.{content_spelling, PartsWithin}, Language.{Language, First}}
use Rattle.argus_texts.specs.Bytes.{at_sign, close_brace, close_bracket, colon, greater_than, hyphen, letter_f}
use Rattle.argus_texts.specs.Bytes.{letter_n, letter_t, open_bracket, quote}

-- the byte is no decimal digit
abbrev pub IsNoDigit : ℕ → Type 0
IsNoDigit c = (c < 48) ⊎ (57 < c)

-- text doesn't begin with a digit
abbrev pub NotDigit : List ℕ → Type 0
NotDigit text = First IsNoDigit text

-- natural numbers from least to most
abbrev pub Numbers : ℕ → ℕ → Language
Numbers least most = record {
  Thing = ℕ;
  Good = λ n. (least ≤ n) × (n ≤ most);
  form = decimal;
  Ends = λ n rest. NotDigit rest;
}

-- integers of 64 bits
abbrev pub Ints : Language
Ints = record { Thing = ℤ; Good = IsI64; form = signed_decimal; Ends = λ n rest. NotDigit rest }

-- one word
abbrev pub Word : List ℕ → Language
Word word =
    record { Thing = Unit {0}; Good = λ u. Unit {0}; form = λ u. word; Ends = λ u rest. Unit {0} }

-- texts after their opening quote
abbrev pub Quoted : Language
Quoted = record {
  Thing = List ℕ;
  Good = IsUtf8;
  form = λ t. escaped t ++ quote ∷ [];
  Ends = λ t rest. Unit {0};
}

-- a thing of the one language, a byte, and a thing of the other
abbrev pub Pairs : Language → ℕ → Language → Language
Pairs L c M = record {
  Thing = L.Thing × M.Thing;
  Good = λ p. L.Good p.0 × M.Good p.1;
  form = λ p. L.form p.0 ++ c ∷ M.form p.1;
  Ends = λ p rest. M.Ends p.1 rest;
}

-- what may come after a value
abbrev pub ValueEnds : PlainValue → List ℕ → Type 0
ValueEnds (value.int n) rest = NotDigit rest
ValueEnds (value.atomic o) rest = NotDigit rest
ValueEnds v rest = Unit {0}

-- values of depth at most k
abbrev pub Values : ℕ → Language
Values k = record { Thing = PlainValue; Good = Within k; form = spelling; Ends = ValueEnds }

-- values with commas between them, and the closing byte
abbrev pub Insides : ℕ → ℕ → Language
Insides close k = record {
  Thing = PlainValues;
  Good = AllWithin k;
  form = inside close;
  Ends = λ vs rest. Unit {0};
}

-- the same, with at least one value
abbrev pub Items : ℕ → ℕ → Language
Items close k = record {
  Thing = PlainValue × PlainValues;
  Good = λ p. Within k p.0 × AllWithin k p.1;
  form = λ p. spelling p.0 ++ behind close p.1;
  Ends = λ p rest. Unit {0};
}

-- a tag and a value, after the opening angle
abbrev pub Choices : ℕ → Language
Choices k = Pairs (Numbers 0 255) colon (Pairs (Values k) greater_than (Word []))

-- contents whose values have depth at most k each
abbrev pub Contents : ℕ → Language
Contents k = record {
  Thing = PlainContent;
  Good = PartsWithin k;
  form = content_spelling;
  Ends = λ c rest. Unit {0};
}

-- the bytes that close a list of values
abbrev pub IsClose : ℕ → Type 0
IsClose c = (c ≡ close_bracket) ⊎ (c ≡ close_brace)

-- an integer's form begins with the byte: the sign or a digit
abbrev pub BeginsInt : ℕ → Type 0
BeginsInt c = (hyphen ≤ c) × (c ≤ 57) × (c ≢ 46) × (c ≢ 47)

-- no scalar's form begins with the byte
abbrev pub BeginsNoScalar : ℕ → Type 0
BeginsNoScalar c = (c ≢ letter_n) × (c ≢ letter_t) × (c ≢ letter_f) × (c ≢ quote) × (c ≢ at_sign)
    × (BeginsInt c → ⊥)

-- arrays whose items have depth at most k each
abbrev pub Arrays : ℕ → Language
Arrays k = Pairs Ints open_bracket (Insides close_bracket k)
