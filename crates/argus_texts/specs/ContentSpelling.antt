-- The one written form of a content.
use Rattle.std.specs.{Prelude.{ℕ, ◌<◌, ◌^◌, List, [], ◌∷◌, ◌++◌}, Fmt.{decimal, signed_decimal}}
use Rattle.argus_contents.specs.{Content.{PlainContent, rec, arr, var}, Value.listed}
use Rattle.argus_texts.specs.{Spelling.{spelling, inside, IsI64, Within, AllWithin}, Bytes.open_bracket}
use Rattle.argus_texts.specs.Bytes.{close_brace, close_bracket, colon, greater_than, less_than, open_brace}

-- the written form of a content
abbrev pub content_spelling : PlainContent → List ℕ
content_spelling (rec vs) = open_brace ∷ inside close_brace (listed vs)
content_spelling (arr low vs) =
    signed_decimal low ++ open_bracket ∷ inside close_bracket (listed vs)
content_spelling (var t v) = less_than ∷ (decimal t ++ colon ∷ (spelling v ++ greater_than ∷ []))

-- a content whose values have depth at most k each, that a program can hold
abbrev pub PartsWithin : ℕ → PlainContent → Type 0
PartsWithin k (rec vs) = AllWithin k (listed vs)
PartsWithin k (arr low vs) = IsI64 low × AllWithin k (listed vs)
PartsWithin k (var t v) = (t < 2 ^ 8) × Within k v
