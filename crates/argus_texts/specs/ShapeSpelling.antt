-- The one written form of a type and of a shape, and the texts that are a shape's.
use Rattle.std.specs.Prelude.{◌≡◌, ℕ, List, [], ◌∷◌, ◌++◌, codes}
use Rattle.argus_contents.specs.Shape.{PlainShape, rec, arr, var}
pub use Rattle.argus_contents.specs.Shape.{IsNamed, AreNamed, HasNames, IsMakeable}
use Rattle.argus_contents.specs.Ty.{PlainTy, PlainFields}
use Rattle.argus_contents.specs.Ty as ty
use Rattle.argus_texts.specs.Bytes.{close_bracket, colon, comma}

abbrev mutual
  -- the written form of a type
  pub ty_spelling : PlainTy → List ℕ
  ty_spelling ty.null = codes "null"
  ty_spelling ty.bool = codes "bool"
  ty_spelling ty.int = codes "int"
  ty_spelling ty.text = codes "text"
  ty_spelling ty.atomic = codes "atomic"
  ty_spelling (ty.sequence x) = codes "sequence[" ++ (ty_spelling x ++ close_bracket ∷ [])
  ty_spelling (ty.fields fs) = codes "struct[" ++ names_inside fs
  ty_spelling (ty.choice fs) = codes "oneof[" ++ names_inside fs

  -- names with their types, commas between them, and the closing bracket
  pub names_inside : PlainFields → List ℕ
  names_inside ty.none = close_bracket ∷ []
  names_inside (ty.more name x fs) = name ++ colon ∷ (ty_spelling x ++ names_behind fs)

  -- what comes after a name and its type, up to the closing bracket
  pub names_behind : PlainFields → List ℕ
  names_behind ty.none = close_bracket ∷ []
  names_behind (ty.more name x fs) = comma ∷ (name ++ colon ∷ (ty_spelling x ++ names_behind fs))

-- the written form of a shape
abbrev pub shape_spelling : PlainShape → List ℕ
shape_spelling (rec fs) = codes "atomic_record[" ++ names_inside fs
shape_spelling (arr x) = codes "atomic_array[" ++ (ty_spelling x ++ close_bracket ∷ [])
shape_spelling (var fs) = codes "atomic_variant[" ++ names_inside fs

-- text is the written form of a shape that can be made
pub record IsShapeText (text : List ℕ) : Type 0 where
  pub shape : PlainShape
  pub makeable : IsMakeable shape
  pub is : text ≡ shape_spelling shape
