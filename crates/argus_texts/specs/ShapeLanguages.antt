-- The languages of the reader of shapes, and what it requires of types while it reads.
use Rattle.std.specs.Prelude.{◌≡◌, ℕ, ◌<◌, ◌-◌, true, List, [], ◌∷◌, ◌++◌}
use Rattle.argus_contents.specs.{Name.is_name, Shape.PlainShape, Ty.{PlainTy, PlainFields}}
use Rattle.argus_contents.specs.declared.limits.TheConstants.{MAX_NAMES}
use Rattle.argus_contents.specs.Ty as ty
use Rattle.argus_texts.specs.{declared.unread.Unread.Unread, Language.{Language, Starts}, Bytes.{close_bracket, colon}}
use Rattle.argus_texts.specs.ShapeSpelling.{ty_spelling, names_inside, shape_spelling, IsMakeable}
use Rattle.argus_texts.specs.declared.unread.Unread.TheVariants as unread

-- the text doesn't begin with a form of the language
abbrev pub BeginsNo : Language → List ℕ → Type 0
BeginsNo L text = Starts L text → ⊥

-- P holds if there is no form; out of memory says nothing
abbrev pub OnNoForm : Unread → Type 0 → Type 0
OnNoForm unread.NoForm P = P
OnNoForm unread.Memory P = Unit {0}

-- names with their colon
abbrev pub Names : Language
Names = record {
  Thing = List ℕ;
  Good = λ n. is_name n ≡ true;
  form = λ n. n ++ colon ∷ [];
  Ends = λ n rest. Unit {0};
}

-- such types
abbrev pub Types : (PlainTy → Type 0) → Language
Types Good = record { Thing = PlainTy; Good = Good; form = ty_spelling; Ends = λ t rest. Unit {0} }

-- such types with the closing bracket
abbrev pub Closed : (PlainTy → Type 0) → Language
Closed Good = record {
  Thing = PlainTy;
  Good = Good;
  form = λ t. ty_spelling t ++ close_bracket ∷ [];
  Ends = λ t rest. Unit {0};
}

-- names with such types
abbrev pub Fields : (PlainTy → Type 0) → Language
Fields Good = record {
  Thing = List ℕ × PlainTy;
  Good = λ f. (is_name f.0 ≡ true) × Good f.1;
  form = λ f. f.0 ++ colon ∷ ty_spelling f.1;
  Ends = λ f rest. Unit {0};
}

-- such lists of names with their types, up to the closing bracket
abbrev pub Lists : (PlainFields → Type 0) → Language
Lists Good =
    record { Thing = PlainFields; Good = Good; form = names_inside; Ends = λ fs rest. Unit {0} }

-- shapes that can be made
abbrev pub Shapes : Language
Shapes = record {
  Thing = PlainShape;
  Good = IsMakeable;
  form = shape_spelling;
  Ends = λ s rest. Unit {0};
}

-- a type without parts
abbrev pub IsScalar : PlainTy → Type 0
IsScalar (ty.sequence x) = ⊥
IsScalar (ty.fields fs) = ⊥
IsScalar (ty.choice fs) = ⊥
IsScalar t = Unit {0}

-- there is a name in the list
abbrev pub IsFilled : PlainFields → Type 0
IsFilled ty.none = ⊥
IsFilled (ty.more name x fs) = Unit {0}

abbrev mutual
  -- a type of depth at most k, each list in it of 1 to 64 names in form
  pub IsShallow : ℕ → PlainTy → Type 0
  IsShallow k (ty.sequence x) = (0 < k) × IsShallow (k - 1) x
  IsShallow k (ty.fields fs) = (0 < k) × IsFilled fs × AreShallow MAX_NAMES (k - 1) fs
  IsShallow k (ty.choice fs) = (0 < k) × IsFilled fs × AreShallow MAX_NAMES (k - 1) fs
  IsShallow k _ = 0 < k

  -- at most n names in form with such types
  pub AreShallow : ℕ → ℕ → PlainFields → Type 0
  AreShallow n k ty.none = Unit {0}
  AreShallow n k (ty.more name x fs) =
      (0 < n) × (is_name name ≡ true) × IsShallow k x × AreShallow (n - 1) k fs

-- 1 to n names in form with types of depth at most k
abbrev pub IsList : ℕ → ℕ → PlainFields → Type 0
IsList n k fs = IsFilled fs × AreShallow n k fs
