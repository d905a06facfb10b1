-- The parts of an opening's lines: if one is missing, the text isn't such a line.
use Rattle.std.proofs.Common.{◌≡◌, ℕ, ◌<◌, List, ◌∷◌, length, arith, inl}
use Rattle.std.specs.Prelude.{Option, codes}
use Rattle.argus_contents.specs.{Content.PlainContent, Shape.PlainShape, declared.limits.TheConstants.MAX_ACTIONS}
use Rattle.argus_journal.specs.declared.limits.TheConstants.{MAX_FIRST_ENTRY}
use Rattle.argus_reading.proofs.{Joints.ids_clear, Words.{stops_starts, worded_clear}, WholeForms.second_no}
use Rattle.argus_reading.proofs.WholeForms.{between_no, form_starts, left_no, pair_starts, pair_whole, read_whole}
use Rattle.argus_reading.specs.{Combined.Worded, Operations.Ids, OpeningLanguages.{FoldedLines, IsForm, ObjectLines}}
use Rattle.argus_reading.specs.OpeningLanguages.{OptionContents}
use Rattle.argus_texts.specs.{Language.{FormOf, IsNot, Language, Reads, Stops}, Languages.{Contents, Numbers, Pairs}}
use Rattle.argus_texts.specs.ShapeLanguages.{BeginsNo, Shapes}
use Rattle.argus_texts.proofs.{Contents.contents_clear, Digits.numbers_clear, ShapeForms.one_shape, Stops.Clear}
use Rattle.argus_texts.proofs.Stops.{Precedes}

-- THE FIRST LINE

abbrev pub Before : Language
Before = Worded (codes "entries ") (Numbers 1 MAX_FIRST_ENTRY)

abbrev pub After : Language
After = Worded (codes "actions ") (Numbers 0 MAX_ACTIONS)

pub before_clear : Clear Before
before_clear = worded_clear (codes "entries ") (Numbers 1 MAX_FIRST_ENTRY) (numbers_clear 1 MAX_FIRST_ENTRY
    (omega arith))

before_precedes : Precedes Before 32
before_precedes = λ a y. inl (omega arith)

pub after_clear : Clear After
after_clear = worded_clear (codes "actions ") (Numbers 0 MAX_ACTIONS) (numbers_clear 0 MAX_ACTIONS (omega arith))

pub folded_first : (text : List ℕ) (left : ℕ) → Stops Before text left → FormOf FoldedLines text → ⊥
folded_first text left s f = stops_starts Before text left s (pair_starts Before After 32 before_precedes text f)

pub folded_between : (text : List ℕ) (a : ℕ) (rest : List ℕ) → Reads Before text a rest → IsNot 32 rest
    → FormOf FoldedLines text → ⊥
folded_between text a rest r n f = between_no Before After 32 before_precedes before_clear text a rest r n f

pub folded_second : (text : List ℕ) (a : ℕ) (next mid : List ℕ) (left : ℕ) → Reads Before text a next → next ≡ 32 ∷ mid
    → Stops After mid left → FormOf FoldedLines text → ⊥
folded_second text a next mid left r e s f = second_no Before After 32 before_precedes before_clear text a next mid r e
    (λ g. stops_starts After mid left s (form_starts After after_clear mid g)) f

pub folded_left : (text : List ℕ) (a b : ℕ) (next mid rest : List ℕ) → Reads Before text a next → next ≡ 32 ∷ mid
    → Reads After mid b rest → 0 < length rest → FormOf FoldedLines text → ⊥
folded_left text a b next mid rest r e s h f =
    second_no Before After 32 before_precedes before_clear text a next mid r e
    (λ g. left_no After after_clear b mid rest s h g) f

pub folded_whole : (text : List ℕ) (a b : ℕ) (next mid rest : List ℕ) → Reads Before text a next → next ≡ 32 ∷ mid
    → Reads After mid b rest → length rest ≡ 0 → IsForm FoldedLines (a, b) text
folded_whole text a b next mid rest r e s h =
    pair_whole Before After 32 before_precedes text a b next mid r e (read_whole After b mid rest s h)

-- THE LINE OF AN OBJECT

abbrev Number : Language
Number = Worded (codes "o") Ids

abbrev Object : Language
Object = Pairs Shapes 32 OptionContents

number_precedes : Precedes Number 32
number_precedes = λ a y. inl (omega arith)

shape_precedes : Precedes Shapes 32
shape_precedes = λ a y. tt

shapes_clear : Clear Shapes
shapes_clear = grind (arith, one_shape)

pub object_first : (text : List ℕ) (left : ℕ) → Stops Number text left → FormOf ObjectLines text → ⊥
object_first text left s f = stops_starts Number text left s (pair_starts Number Object 32 number_precedes text f)

pub object_between : (text : List ℕ) (o : ℕ) (rest : List ℕ) → Reads Number text o rest → IsNot 32 rest
    → FormOf ObjectLines text → ⊥
object_between text o rest r n f = between_no Number Object 32 number_precedes (ids_clear (codes "o")) text o rest r n f

module _ (text : List ℕ) (o : ℕ) (next mid : List ℕ) (r : Reads Number text o next) (e : next ≡ 32 ∷ mid) where
  behind_number : (FormOf Object mid → ⊥) → FormOf ObjectLines text → ⊥
  behind_number n f = second_no Number Object 32 number_precedes (ids_clear (codes "o")) text o next mid r e n f

  pub object_shape : BeginsNo Shapes mid → FormOf ObjectLines text → ⊥
  object_shape n f = behind_number (λ g. n (pair_starts Shapes OptionContents 32 shape_precedes mid g)) f

  module _ (shape : PlainShape) (rest : List ℕ) (s : Reads Shapes mid shape rest) where
    pub object_blank : IsNot 32 rest → FormOf ObjectLines text → ⊥
    object_blank n f =
        behind_number (λ g. between_no Shapes OptionContents 32 shape_precedes shapes_clear mid shape rest s n g) f

    pub object_content : (last : List ℕ) → rest ≡ 32 ∷ last → (FormOf OptionContents last → ⊥)
        → FormOf ObjectLines text → ⊥
    object_content last h n f = behind_number
        (λ g. second_no Shapes OptionContents 32 shape_precedes shapes_clear mid shape rest last s h n g) f

    pub object_whole : (c : Option PlainContent) (last : List ℕ) → rest ≡ 32 ∷ last → IsForm OptionContents c last
        → IsForm ObjectLines (o, (shape, c)) text
    object_whole c last h w = pair_whole Number Object 32 number_precedes text o (shape, c) next mid r e
        (pair_whole Shapes OptionContents 32 shape_precedes mid shape c rest last s h w)

-- CONTENTS

no_content : (text : List ℕ) → (text ≡ codes "absent" → ⊥) → (FormOf (Contents 16) text → ⊥)
    → (c : Option PlainContent) → OptionContents.Good c → text ≡ OptionContents.form c → ⊥
no_content text n m p g is = grind arith

pub content_stops : (text : List ℕ) (left : ℕ) → (text ≡ codes "absent" → ⊥) → Stops (Contents 16) text left
    → FormOf OptionContents text → ⊥
content_stops text left n s f =
    no_content text n (λ g. stops_starts (Contents 16) text left s (form_starts (Contents 16)
    (contents_clear 16) text g)) f.thing f.good f.is

pub content_left : (text : List ℕ) (c : PlainContent) (rest : List ℕ) → (text ≡ codes "absent" → ⊥)
    → Reads (Contents 16) text c rest → 0 < length rest → FormOf OptionContents text → ⊥
content_left text c rest n r h f =
    no_content text n (λ g. left_no (Contents 16) (contents_clear 16) c text rest r h g) f.thing f.good f.is
