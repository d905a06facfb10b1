-- Effects, and the contents that they leave.
use Rattle.std.specs.{Coded.{Coded, coded_list, coded_option, coded_ℕ, coded×}, Prelude.{◌≡◌, ◌∷◌}}
use Rattle.std.specs.Prelude.{List, None, Option, [], get_or, length, map, max, replicate, set, ℕ, fold, ◌++◌, ◌+◌, ◌-◌}
use Rattle.argus_contents.specs.{Content.{PlainContent, plain_option}, ContentCode.content_coded, Effect.Effect}
use Rattle.argus_contents.specs.declared.content.Content.{Content}
use Rattle.argus_model.specs.Effects.{table}

-- what a list of contents says
abbrev pub plain_contents : List (Option Content) → List (Option PlainContent)
plain_contents contents = map plain_option contents

-- the content of an object; none if the list has none
abbrev pub content_of_object : List (Option PlainContent) → ℕ → Option PlainContent
content_of_object contents o = get_or contents o None

-- how many objects a list needs for all that the effect names
abbrev pub needed : Effect → ℕ
needed [] = 0
needed (pair ∷ effect) = max (pair.0 + 1) (needed effect)

-- the list with at least this many objects
abbrev pub padded : List (Option PlainContent) → ℕ → List (Option PlainContent)
padded contents n = contents ++ replicate (n - length contents) None

-- the list with each object of the effect changed
abbrev pub written : List (Option PlainContent) → Effect → List (Option PlainContent)
written contents [] = contents
written contents (pair ∷ effect) = set (written contents effect) pair.0 pair.1

-- the contents after an effect
abbrev pub overwritten : List (Option PlainContent) → Effect → List (Option PlainContent)
overwritten contents effect = written (padded contents (needed effect)) effect

-- the contents after these effects
abbrev pub contents_after : List (Option PlainContent) → List Effect → List (Option PlainContent)
contents_after first effects = fold overwritten first effects

-- the list has the contents that these effects leave
abbrev pub IsTableOf : (ℕ → Option PlainContent) → List Effect → List (Option PlainContent) → Type 0
IsTableOf opening effects contents = (o : ℕ) → content_of_object contents o
    ≡ table opening effects o

-- an effect is stored as a list of pairs
abbrev pub effect_coded : Coded Effect
effect_coded = coded_list (coded× coded_ℕ (coded_option content_coded))

-- so effects can be stored
abbrev pub effects_coded : Coded (List Effect)
effects_coded = coded_list effect_coded

-- so contents can be stored
abbrev pub contents_coded : Coded (List (Option PlainContent))
contents_coded = coded_list (coded_option content_coded)
