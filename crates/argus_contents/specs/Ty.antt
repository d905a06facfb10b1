-- What a type says, apart from where it is in memory.
use Rattle.std.specs.Prelude.{ℕ, List, [], ◌∷◌, map}
use Rattle.argus_contents.specs.{declared.name.Name.Name, declared.ty.Ty.{Ty, fold-Ty}, declared.ty.Ty.TheOpen.Ty-F}

mutual
  -- a plain type
  pub data PlainTy : Type 0 where
    null : PlainTy
    bool : PlainTy
    int : PlainTy
    text : PlainTy
    atomic : PlainTy
    sequence : PlainTy → PlainTy
    fields : PlainFields → PlainTy
    choice : PlainFields → PlainTy

  -- names with their types, in order; a name is its bytes
  pub data PlainFields : Type 0 where
    none : PlainFields
    more : List ℕ → PlainTy → PlainFields → PlainFields

-- the names and types of a list, in its order
abbrev pub named : List (List ℕ × PlainTy) → PlainFields
named [] = none
named (f ∷ fs) = more f.0 f.1 (named fs)

-- one level of a type, whose parts are already plain
abbrev pub plain_level : Ty-F PlainTy → PlainTy
plain_level Ty-F.Null = null
plain_level Ty-F.Bool = bool
plain_level Ty-F.Int = int
plain_level Ty-F.Text = text
plain_level Ty-F.Atomic = atomic
plain_level (Ty-F.Sequence t) = sequence t.value
plain_level (Ty-F.Fields fs) = fields (named fs.items)
plain_level (Ty-F.Choice fs) = choice (named fs.items)

-- what a type says
abbrev pub plain_ty : Ty → PlainTy
plain_ty = fold-Ty PlainTy plain_level

-- what a name with its type says
abbrev pub plain_field : Name × Ty → List ℕ × PlainTy
plain_field f = (f.0, plain_ty f.1)

-- what a list of names and types says
abbrev pub plain_fields : List (Name × Ty) → PlainFields
plain_fields fs = named (map plain_field fs)
