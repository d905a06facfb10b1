-- The code of a plain content: a tree of numbers from which it can be read again.
use Rattle.std.specs.Prelude.{◌≡◌, ℕ, ℤ, pos, negsuc, Bool, true, false, List, [], ◌∷◌, ◌==◌, if◌then◌else◌, refl}
use Rattle.std.specs.Coded.{Coded}
use Rattle.std.proofs.Common.{ap, sym, ◌∙◌}
use base.Stored.{Gv, gnil, gnum, gcons, num}
use Rattle.argus_contents.specs.{ShapeCode.{first, second, bytes_code, bytes_at, bytes_back}, Content.PlainContent}
use Rattle.argus_contents.specs.Value.{PlainValue, PlainValues}
use Rattle.argus_contents.specs.Value as value
use Rattle.argus_contents.specs.Content as content

-- a truth value as it is stored
abbrev pub bool_code : Bool → Gv
bool_code false = gnum 0
bool_code true = gnum 1

-- the truth value that is stored like this
abbrev pub bool_at : Gv → Bool
bool_at g = if num g == 0 then false else true

-- what was stored is read again
pub bool_back : (b : Bool) → bool_at (bool_code b) ≡ b
bool_back false = refl
bool_back true = refl

-- an integer as it is stored: its sign and a number
abbrev pub int_code : ℤ → Gv
int_code (pos n) = gcons (gnum 0) (gnum n)
int_code (negsuc n) = gcons (gnum 1) (gnum n)

-- the integer that is stored like this
abbrev pub int_at : Gv → ℤ
int_at g = if num (first g) == 0 then pos (num (second g)) else negsuc (num (second g))

-- what was stored is read again
pub int_back : (n : ℤ) → int_at (int_code n) ≡ n
int_back (pos n) = refl
int_back (negsuc n) = refl

abbrev mutual
  -- a value as it is stored: its kind, and its parts
  pub value_code : PlainValue → Gv
  value_code value.null = gcons (gnum 0) gnil
  value_code (value.bool b) = gcons (gnum 1) (bool_code b)
  value_code (value.int n) = gcons (gnum 2) (int_code n)
  value_code (value.text bs) = gcons (gnum 3) (bytes_code bs)
  value_code (value.atomic o) = gcons (gnum 4) (gnum o)
  value_code (value.sequence vs) = gcons (gnum 5) (values_code vs)
  value_code (value.fields vs) = gcons (gnum 6) (values_code vs)
  value_code (value.choice t v) = gcons (gnum 7) (gcons (gnum t) (value_code v))

  -- values as they are stored
  pub values_code : PlainValues → Gv
  values_code value.none = gnil
  values_code (value.more v vs) = gcons (value_code v) (values_code vs)

-- the value of a kind: from what its second part is as a scalar, as values, and as the value of a
-- choice
abbrev pub value_of : ℕ → Gv → PlainValues → PlainValue → PlainValue
value_of k g vs v =
    if k == 0 then value.null else (if k == 1 then value.bool (bool_at g)
    else (if k == 2 then value.int (int_at g) else
    (if k == 3 then value.text (bytes_at g) else (if k == 4 then value.atomic (num g)
    else (if k == 5 then value.sequence vs else
    (if k == 6 then value.fields vs else value.choice (num (first g)) v))))))

-- what a tree is as a value, what it is as a list of values, and what its second part is as a value
abbrev pub seen : Gv → PlainValue × PlainValues × PlainValue
seen gnil = (value.null, value.none, value.null)
seen (gnum n) = (value.null, value.none, value.null)
seen (gcons a b) =
    (value_of (num a) b (seen b).1 (seen b).2, value.more (seen a).0 (seen b).1, (seen b).0)

mutual
  -- what was stored is read again
  pub value_back : (v : PlainValue) → (seen (value_code v)).0 ≡ v
  value_back value.null = refl
  value_back (value.bool b) = ap value.bool (bool_back b)
  value_back (value.int n) = ap value.int (int_back n)
  value_back (value.text bs) = ap value.text (bytes_back bs)
  value_back (value.atomic o) = refl
  value_back (value.sequence vs) = ap value.sequence (values_back vs)
  value_back (value.fields vs) = ap value.fields (values_back vs)
  value_back (value.choice t v) = ap (value.choice t) (value_back v)

  -- what was stored is read again, of values
  pub values_back : (vs : PlainValues) → (seen (values_code vs)).1 ≡ vs
  values_back value.none = refl
  values_back (value.more v vs) =
      ap (λ x. value.more x (seen (values_code vs)).1) (value_back v)
      ∙ ap (value.more v) (values_back vs)

-- a list of values as it is stored
abbrev pub list_code : List PlainValue → Gv
list_code [] = gnil
list_code (v ∷ vs) = gcons (value_code v) (list_code vs)

-- the list of values that is stored like this
abbrev pub list_at : Gv → List PlainValue
list_at gnil = []
list_at (gnum n) = []
list_at (gcons a b) = (seen a).0 ∷ list_at b

-- what was stored is read again
pub list_back : (vs : List PlainValue) → list_at (list_code vs) ≡ vs
list_back [] = refl
list_back (v ∷ vs) =
    ap (λ x. x ∷ list_at (list_code vs)) (value_back v) ∙ ap (λ rest. v ∷ rest) (list_back vs)

-- a content as it is stored: its kind, and its parts
abbrev pub content_code : PlainContent → Gv
content_code (content.rec vs) = gcons (gnum 0) (list_code vs)
content_code (content.arr low vs) = gcons (gnum 1) (gcons (int_code low) (list_code vs))
content_code (content.var t v) = gcons (gnum 2) (gcons (gnum t) (value_code v))

-- the content that is stored like this
abbrev pub content_at : Gv → PlainContent
content_at g =
    if num (first g) == 0 then content.rec (list_at (second g)) else
    (if num (first g) == 1 then content.arr (int_at (first (second g)))
    (list_at (second (second g))) else
    content.var (num (first (second g))) (seen (second (second g))).0)

-- what was stored is read again
pub content_back : (c : PlainContent) → content_at (content_code c) ≡ c
content_back (content.rec vs) = ap content.rec (list_back vs)
content_back (content.arr low vs) =
    ap (λ n. content.arr n (list_at (list_code vs))) (int_back low)
    ∙ ap (content.arr low) (list_back vs)
content_back (content.var t v) = ap (content.var t) (value_back v)

-- two contents that are stored alike are equal
pub content_injective : (c d : PlainContent) → content_code c ≡ content_code d → c ≡ d
content_injective c d e = sym (content_back c) ∙ (ap content_at e ∙ content_back d)

-- so contents can be stored
abbrev pub content_coded : Coded PlainContent
content_coded = record { code = content_code; inj = content_injective }
