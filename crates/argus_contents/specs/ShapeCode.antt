-- The code of a plain shape: a tree of numbers from which it can be read again.
use Rattle.std.specs.{Prelude.{◌≡◌, ℕ, List, [], ◌∷◌, ◌==◌, if◌then◌else◌, refl}, Coded.Coded}
use Rattle.std.proofs.Common.{ap, sym, ◌∙◌}
use base.Stored.{Gv, gnil, gnum, gcons, num}
use Rattle.argus_contents.specs.{Ty.{PlainTy, PlainFields}, Shape.{PlainShape, rec, arr, var}}
use Rattle.argus_contents.specs.Ty as ty

-- the first part of what is stored
abbrev pub first : Gv → Gv
first gnil = gnil
first (gnum n) = gnil
first (gcons a b) = a

-- the second part of what is stored
abbrev pub second : Gv → Gv
second gnil = gnil
second (gnum n) = gnil
second (gcons a b) = b

-- bytes as they are stored
abbrev pub bytes_code : List ℕ → Gv
bytes_code [] = gnil
bytes_code (b ∷ bs) = gcons (gnum b) (bytes_code bs)

-- the bytes that are stored like this
abbrev pub bytes_at : Gv → List ℕ
bytes_at gnil = []
bytes_at (gnum n) = []
bytes_at (gcons a b) = num a ∷ bytes_at b

-- what was stored is read again
pub bytes_back : (bs : List ℕ) → bytes_at (bytes_code bs) ≡ bs
bytes_back [] = refl
bytes_back (b ∷ bs) = ap (λ rest. b ∷ rest) (bytes_back bs)

abbrev mutual
  -- a type as it is stored: its kind, and its part
  pub ty_code : PlainTy → Gv
  ty_code ty.null = gcons (gnum 0) gnil
  ty_code ty.bool = gcons (gnum 1) gnil
  ty_code ty.int = gcons (gnum 2) gnil
  ty_code ty.text = gcons (gnum 3) gnil
  ty_code ty.atomic = gcons (gnum 4) gnil
  ty_code (ty.sequence t) = gcons (gnum 5) (ty_code t)
  ty_code (ty.fields fs) = gcons (gnum 6) (fields_code fs)
  ty_code (ty.choice fs) = gcons (gnum 7) (fields_code fs)

  -- named types as they are stored
  pub fields_code : PlainFields → Gv
  fields_code ty.none = gnil
  fields_code (ty.more name t fs) = gcons (gcons (bytes_code name) (ty_code t)) (fields_code fs)

-- the type of a kind, with the part that its kind has
abbrev pub ty_of : ℕ → PlainTy → PlainFields → PlainTy
ty_of k t fs =
    if k == 0 then ty.null else (if k == 1 then ty.bool else
    (if k == 2 then ty.int else (if k == 3 then ty.text else
    (if k == 4 then ty.atomic else (if k == 5 then ty.sequence t else
    (if k == 6 then ty.fields fs else ty.choice fs))))))

-- what a tree is as a type, what its second part is as a type, and what it is as a list of names
abbrev pub seen : Gv → PlainTy × PlainTy × PlainFields
seen gnil = (ty.null, ty.null, ty.none)
seen (gnum n) = (ty.null, ty.null, ty.none)
seen (gcons a b) = (
  ty_of (num a) (seen b).0 (seen b).2,
  (seen b).0,
  ty.more (bytes_at (first a)) (seen a).1 (seen b).2,
)

mutual
  -- what was stored is read again
  pub ty_back : (t : PlainTy) → (seen (ty_code t)).0 ≡ t
  ty_back ty.null = refl
  ty_back ty.bool = refl
  ty_back ty.int = refl
  ty_back ty.text = refl
  ty_back ty.atomic = refl
  ty_back (ty.sequence t) = ap ty.sequence (ty_back t)
  ty_back (ty.fields fs) = ap ty.fields (fields_back fs)
  ty_back (ty.choice fs) = ap ty.choice (fields_back fs)

  -- what was stored is read again, of named types
  pub fields_back : (fs : PlainFields) → (seen (fields_code fs)).2 ≡ fs
  fields_back ty.none = refl
  fields_back (ty.more name t fs) =
      ap (λ n. ty.more n (seen (ty_code t)).0 (seen (fields_code fs)).2) (bytes_back name)
      ∙ (ap (λ x. ty.more name x (seen (fields_code fs)).2) (ty_back t)
      ∙ ap (ty.more name t) (fields_back fs))

-- a shape as it is stored: its kind, and its parts
abbrev pub shape_code : PlainShape → Gv
shape_code (rec fs) = gcons (gnum 0) (fields_code fs)
shape_code (arr t) = gcons (gnum 1) (ty_code t)
shape_code (var fs) = gcons (gnum 2) (fields_code fs)

-- the shape that is stored like this
abbrev pub shape_at : Gv → PlainShape
shape_at g =
    if num (first g) == 0 then rec (seen (second g)).2 else
    (if num (first g) == 1 then arr (seen (second g)).0 else var (seen (second g)).2)

-- what was stored is read again
pub shape_back : (s : PlainShape) → shape_at (shape_code s) ≡ s
shape_back (rec fs) = ap rec (fields_back fs)
shape_back (arr t) = ap arr (ty_back t)
shape_back (var fs) = ap var (fields_back fs)

-- two shapes that are stored alike are equal
pub shape_injective : (r s : PlainShape) → shape_code r ≡ shape_code s → r ≡ s
shape_injective r s e = sym (shape_back r) ∙ (ap shape_at e ∙ shape_back s)

-- so shapes can be stored
abbrev pub shape_coded : Coded PlainShape
shape_coded = record { code = shape_code; inj = shape_injective }
