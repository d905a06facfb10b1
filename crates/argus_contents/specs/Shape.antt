-- What a shape says, and when one can be made.
use Rattle.std.specs.Prelude.{◌≡◌, ℕ, ◌+◌, max, nat_eq, nat_lt, Bool, true, false, ◌||◌, if◌then◌else◌, List, [], ◌∷◌}
use Rattle.std.specs.{Prelude.{length, Option, Some, None}, List.list_any}
use lib.Pointwise.{pointwise}
use Rattle.argus_contents.specs.{Name.is_name, Ty.{PlainTy, PlainFields}, declared.shape_fault.ShapeFault.ShapeFault}
use Rattle.argus_contents.specs.declared.limits.TheConstants.{MAX_NAMES, MAX_VALUE_DEPTH}
use Rattle.argus_contents.specs.declared.shape_fault.ShapeFault.TheVariants.{NameTwice, NoNames, TooManyNames, TooDeep}
use Rattle.argus_contents.specs.Ty as ty

-- a plain shape
pub data PlainShape : Type 0 where
  rec : PlainFields → PlainShape
  arr : PlainTy → PlainShape
  var : PlainFields → PlainShape

-- the names of a list, in its order
abbrev pub names_of : PlainFields → List (List ℕ)
names_of ty.none = []
names_of (ty.more name x fs) = name ∷ names_of fs

abbrev mutual
  -- a test holds of some list of names in a type
  pub in_ty : (List (List ℕ) → Bool) → PlainTy → Bool
  in_ty test (ty.sequence x) = in_ty test x
  in_ty test (ty.fields fs) = test (names_of fs) || in_fields test fs
  in_ty test (ty.choice fs) = test (names_of fs) || in_fields test fs
  in_ty test ty.null = false
  in_ty test ty.bool = false
  in_ty test ty.int = false
  in_ty test ty.text = false
  in_ty test ty.atomic = false

  -- a test holds of some list of names in the types of a list
  pub in_fields : (List (List ℕ) → Bool) → PlainFields → Bool
  in_fields test ty.none = false
  in_fields test (ty.more name x fs) = in_ty test x || in_fields test fs

-- a test holds of some list of names anywhere in a shape
abbrev pub anywhere : (List (List ℕ) → Bool) → PlainShape → Bool
anywhere test (rec fs) = test (names_of fs) || in_fields test fs
anywhere test (arr x) = in_ty test x
anywhere test (var fs) = test (names_of fs) || in_fields test fs

-- a name comes twice in the list
abbrev pub has_twice : List (List ℕ) → Bool
has_twice [] = false
has_twice (name ∷ names) = list_any (λ other. pointwise nat_eq other name) names || has_twice names

-- the list is empty
abbrev pub has_none : List (List ℕ) → Bool
has_none [] = true
has_none (name ∷ names) = false

-- the list is longer than the limit
abbrev pub has_too_many : List (List ℕ) → Bool
has_too_many names = nat_lt MAX_NAMES (length names)

abbrev mutual
  -- a scalar has depth 1, a compound type 1 more than its deepest part
  pub depth_of : PlainTy → ℕ
  depth_of (ty.sequence x) = depth_of x + 1
  depth_of (ty.fields fs) = deepest_of fs + 1
  depth_of (ty.choice fs) = deepest_of fs + 1
  depth_of ty.null = 1
  depth_of ty.bool = 1
  depth_of ty.int = 1
  depth_of ty.text = 1
  depth_of ty.atomic = 1

  -- the depth of the deepest type of a list
  pub deepest_of : PlainFields → ℕ
  deepest_of ty.none = 0
  deepest_of (ty.more name x fs) = max (depth_of x) (deepest_of fs)

-- the depth of the deepest type in a shape
abbrev pub depth_in : PlainShape → ℕ
depth_in (rec fs) = deepest_of fs
depth_in (arr x) = depth_of x
depth_in (var fs) = deepest_of fs

-- why such a shape can't be made: the first fault that applies anywhere in it
abbrev pub fault_of : PlainShape → Option ShapeFault
fault_of s =
    if anywhere has_twice s then Some NameTwice else
    (if anywhere has_none s then Some NoNames else
    (if anywhere has_too_many s then Some TooManyNames else
    (if nat_lt MAX_VALUE_DEPTH (depth_in s) then Some TooDeep else None)))

abbrev mutual
  -- each name in the type has the form of a name
  pub IsNamed : PlainTy → Type 0
  IsNamed (ty.sequence x) = IsNamed x
  IsNamed (ty.fields fs) = AreNamed fs
  IsNamed (ty.choice fs) = AreNamed fs
  IsNamed ty.null = Unit {0}
  IsNamed ty.bool = Unit {0}
  IsNamed ty.int = Unit {0}
  IsNamed ty.text = Unit {0}
  IsNamed ty.atomic = Unit {0}

  -- each name of the list, and in its types, has the form of a name
  pub AreNamed : PlainFields → Type 0
  AreNamed ty.none = Unit {0}
  AreNamed (ty.more name x fs) = (is_name name ≡ true) × IsNamed x × AreNamed fs

-- each name in the shape has the form of a name
abbrev pub HasNames : PlainShape → Type 0
HasNames (rec fs) = AreNamed fs
HasNames (arr x) = IsNamed x
HasNames (var fs) = AreNamed fs

-- a shape that can be made: no fault applies, and each name has the form of a name
pub record IsMakeable (shape : PlainShape) : Type 0 where
  pub no_fault : fault_of shape ≡ None
  pub named : HasNames shape
