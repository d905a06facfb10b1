-- Declared objects, and how they are found by name.
use denote.Ref.{Bor}
use Rattle.std.specs.{Prelude.{◌≡◌, ℕ, List, [], ◌++◌, length, slice_get, Option, refl}, BTreeMap.{BTreeMap, get_by}}
use Rattle.std.specs.{Cmp.Lexicographic.slice_cmp, List.{All, position_from}, Ordering.nat_cmp, Str.bytes_eq}
use Rattle.std.specs.Coded.{Coded, code_by, coded×, coded_list, coded_ℕ}
use Rattle.argus_contents.specs.{Shape.PlainShape, ShapeCode.shape_coded}
use Rattle.argus_texts.specs.ShapeSpelling.{IsMakeable}

-- the names and the shapes of the declared objects, in the order of their declarations
pub record PlainObjects : Type 0 where
  pub names : List (List ℕ)
  pub shapes : List PlainShape

-- objects are stored as the pair of these lists
abbrev pub objects_coded : Coded PlainObjects
objects_coded = code_by (List (List ℕ) × List PlainShape)
    (coded× (coded_list (coded_list coded_ℕ)) (coded_list shape_coded))
    (λ o. (o.names, o.shapes)) (λ p. record { names = p.0; shapes = p.1 }) (λ _. refl)

-- without objects
abbrev pub no_objects : PlainObjects
no_objects = record { names = []; shapes = [] }

-- these objects, and after them those
abbrev pub with_more : PlainObjects → PlainObjects → PlainObjects
with_more os more = record { names = os.names ++ more.names; shapes = os.shapes ++ more.shapes }

-- the number of the object with this name, from 0
abbrev pub number_of : List ℕ → PlainObjects → Option ℕ
number_of name os = position_from (λ n. bytes_eq name n) 0 os.names

-- the shape of the object with this number
abbrev pub shape_at : PlainObjects → ℕ → Option PlainShape
shape_at os i = slice_get os.shapes i

-- each object has a shape that can be made; no other shape has its written form
abbrev pub AllMakeable : PlainObjects → Type 0
AllMakeable os = All IsMakeable os.shapes

-- the map finds each name's number, and each name has a shape
pub record IsIndexed (names : List (List ℕ)) (shapes : List PlainShape)
    (numbers : BTreeMap (Bor (List ℕ)) ℕ) : Type 0 where
  pub found : (name : List ℕ) → get_by (λ k. slice_cmp nat_cmp name k.now) numbers
      ≡ position_from (λ n. bytes_eq name n) 0 names
  pub shaped : length shapes ≡ length names
