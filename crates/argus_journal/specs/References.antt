-- The objects that a content refers to.
use Rattle.std.specs.Prelude.{List, None, Option, Some, [], ℕ, ◌++◌, ◌∷◌, ◌≡◌, ◌⊎◌}
use Rattle.argus_contents.specs.{Content.{PlainContent, arr, rec, var}, Value.{PlainValue, PlainValues, listed}}
use Rattle.argus_contents.specs.Value as value

abbrev mutual
  -- the numbers of the objects that a value names
  pub references : PlainValue → List ℕ
  references (value.atomic o) = o ∷ []
  references (value.sequence vs) = all_references vs
  references (value.fields vs) = all_references vs
  references (value.choice t v) = references v
  references value.null = []
  references (value.bool b) = []
  references (value.int i) = []
  references (value.text t) = []

  -- of each of the values
  pub all_references : PlainValues → List ℕ
  all_references value.none = []
  all_references (value.more v vs) = references v ++ all_references vs

-- the numbers of the objects that a content names, if there is a content
abbrev pub references_in : Option PlainContent → List ℕ
references_in None = []
references_in (Some (rec vs)) = all_references (listed vs)
references_in (Some (arr low vs)) = all_references (listed vs)
references_in (Some (var t v)) = references v

-- v is the value, or a part of it, however deep
abbrev mutual
  pub IsPart : PlainValue → PlainValue → Type 0
  IsPart v (value.sequence vs) = (v ≡ value.sequence vs) ⊎ IsPartOfOne v vs
  IsPart v (value.fields vs) = (v ≡ value.fields vs) ⊎ IsPartOfOne v vs
  IsPart v (value.choice t w) = (v ≡ value.choice t w) ⊎ IsPart v w
  IsPart v (value.atomic o) = v ≡ value.atomic o
  IsPart v value.null = v ≡ value.null
  IsPart v (value.bool b) = v ≡ value.bool b
  IsPart v (value.int i) = v ≡ value.int i
  IsPart v (value.text t) = v ≡ value.text t

  -- of one of the values
  pub IsPartOfOne : PlainValue → PlainValues → Type 0
  IsPartOfOne v value.none = ⊥
  IsPartOfOne v (value.more w ws) = IsPart v w ⊎ IsPartOfOne v ws

-- v is a part of the content, if there is a content
abbrev pub IsPartOf : PlainValue → Option PlainContent → Type 0
IsPartOf v None = ⊥
IsPartOf v (Some (rec vs)) = IsPartOfOne v (listed vs)
IsPartOf v (Some (arr low vs)) = IsPartOfOne v (listed vs)
IsPartOf v (Some (var t w)) = IsPart v w

-- the content has a reference to the object
abbrev pub OccursIn : ℕ → Option PlainContent → Type 0
OccursIn o c = IsPartOf (value.atomic o) c
