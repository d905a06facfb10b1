-- When a value is of a type.
use Rattle.std.specs.Prelude.{ℕ, zero, suc, Bool, true, false, ◌&&◌, nat_lt, Option, Some, None}
use Rattle.argus_contents.specs.{Value.{PlainValue, PlainValues}, Ty.{PlainTy, PlainFields}}
use Rattle.argus_contents.specs.Value as value
use Rattle.argus_contents.specs.Ty as ty

-- the type of the field or tag with a number, if there is one
abbrev pub ty_at : PlainFields → ℕ → Option PlainTy
ty_at ty.none t = None
ty_at (ty.more name x fs) zero = Some x
ty_at (ty.more name x fs) (suc t) = ty_at fs t

abbrev mutual
  -- the constructors agree, and a reference names one of n declared objects
  pub is_typed : PlainTy → ℕ → PlainValue → Bool
  is_typed ty.null n value.null = true
  is_typed ty.bool n (value.bool b) = true
  is_typed ty.int n (value.int i) = true
  is_typed ty.text n (value.text t) = true
  is_typed ty.atomic n (value.atomic o) = nat_lt o n
  is_typed (ty.sequence x) n (value.sequence vs) = all_typed x n vs
  is_typed (ty.fields fs) n (value.fields vs) = each_typed fs n vs
  is_typed (ty.choice fs) n (value.choice t v) =
      elim (ty_at fs t) [ None ↦ false | Some x ↦ is_typed x n v ]
  is_typed ty.null n v = false
  is_typed ty.bool n v = false
  is_typed ty.int n v = false
  is_typed ty.text n v = false
  is_typed ty.atomic n v = false
  is_typed (ty.sequence x) n v = false
  is_typed (ty.fields fs) n v = false
  is_typed (ty.choice fs) n v = false

  -- each value is of the one type
  pub all_typed : PlainTy → ℕ → PlainValues → Bool
  all_typed x n value.none = true
  all_typed x n (value.more v vs) = is_typed x n v && all_typed x n vs

  -- there is a value for each name, of the name's type
  pub each_typed : PlainFields → ℕ → PlainValues → Bool
  each_typed ty.none n value.none = true
  each_typed (ty.more name x fs) n (value.more v vs) = is_typed x n v && each_typed fs n vs
  each_typed ty.none n (value.more v vs) = false
  each_typed (ty.more name x fs) n value.none = false

-- there is such a field or tag, and the value is of its type
abbrev pub is_typed_at : PlainFields → ℕ → ℕ → PlainValue → Bool
is_typed_at fs t n v = elim (ty_at fs t) [ None ↦ false | Some x ↦ is_typed x n v ]
