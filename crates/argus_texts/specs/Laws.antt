-- The laws of the written forms.
use Rattle.std.specs.Prelude.{◌≡◌, ℕ, true}
use Rattle.argus_contents.specs.{Value.PlainValue, Content.PlainContent, Fitting.is_fitting, Shape.PlainShape}
use Rattle.argus_contents.specs.declared.limits.TheConstants.{MAX_VALUE_DEPTH}
use Rattle.argus_texts.specs.{Spelling.{spelling, Within}, ContentSpelling.{content_spelling, PartsWithin}}
use Rattle.argus_texts.specs.Fault.{IsValueText, IsContentText, IsFault}
use Rattle.argus_texts.specs.ShapeSpelling.{shape_spelling, HasNames, IsMakeable, IsShapeText}

-- the written form of a value has no fault, and is that of no other value
abbrev pub ValuesAreReadBack : Type 0
ValuesAreReadBack = (v : PlainValue) → Within MAX_VALUE_DEPTH v
    → ((at : ℕ) → IsFault IsValueText (spelling v) at → ⊥)
    × ((w : PlainValue) → Within MAX_VALUE_DEPTH w → spelling v ≡ spelling w → w ≡ v)

-- values of any depth with the same written form are the same
abbrev pub ValueTextsAreUnambiguous : Type 0
ValueTextsAreUnambiguous =
    (k : ℕ) (v w : PlainValue) → Within k v → Within k w → spelling v ≡ spelling w → v ≡ w

-- the written form of the content has no fault, and is that of no other content
abbrev pub IsReadBack : PlainContent → Type 0
IsReadBack c = ((at : ℕ) → IsFault IsContentText (content_spelling c) at → ⊥)
    × ((d : PlainContent) → PartsWithin MAX_VALUE_DEPTH d → content_spelling c ≡ content_spelling d
    → d ≡ c)

-- each content whose values have depth at most 16 is read back
abbrev pub ContentsAreReadBack : Type 0
ContentsAreReadBack = (c : PlainContent) → PartsWithin MAX_VALUE_DEPTH c → IsReadBack c

-- a content that a program can hold that fits a shape that can be made has values of depth at most
-- 16, whatever depth was known of them, and is read back
abbrev pub FittingContentsAreReadBack : Type 0
FittingContentsAreReadBack = (s : PlainShape) (declared k : ℕ) (c : PlainContent) → IsMakeable s
    → is_fitting s declared c ≡ true → PartsWithin k c
    → PartsWithin MAX_VALUE_DEPTH c × IsReadBack c

-- contents of any depth with the same written form are the same
abbrev pub ContentTextsAreUnambiguous : Type 0
ContentTextsAreUnambiguous = (k : ℕ) (c d : PlainContent) → PartsWithin k c → PartsWithin k d
    → content_spelling c ≡ content_spelling d → c ≡ d

-- the written form of a shape that can be made is accepted, and is that of no other such shape
abbrev pub ShapesAreReadBack : Type 0
ShapesAreReadBack = (s : PlainShape) → IsMakeable s
    → IsShapeText (shape_spelling s) × ((t : PlainShape) → IsMakeable t
    → shape_spelling s ≡ shape_spelling t → t ≡ s)

-- shapes of any depth and length with the same written form are the same
abbrev pub ShapeTextsAreUnambiguous : Type 0
ShapeTextsAreUnambiguous =
    (s t : PlainShape) → HasNames s → HasNames t → shape_spelling s ≡ shape_spelling t → s ≡ t
