-- The types of a shape that can be made meet the reader's requirements.
use Rattle.std.proofs.Common.{◌≡◌, ℕ, ◌≤◌, ◌-◌, Bool, false, ◌||◌, if◌then◌else◌, Option, Some, None, length, arith}
use Rattle.std.proofs.lemmas.Bool.{or_parts, ltb-false}
use Rattle.argus_contents.specs.Shape.{PlainShape, rec, arr, var, names_of, in_ty, in_fields, anywhere, has_none}
use Rattle.argus_contents.specs.{Shape.{has_too_many, depth_of, deepest_of, depth_in, fault_of}, Ty.{more, PlainTy}}
use Rattle.argus_contents.specs.Ty.{PlainFields, sequence, fields, choice, none}
use Rattle.argus_contents.specs.declared.limits.TheConstants.{MAX_NAMES, MAX_VALUE_DEPTH}
use Rattle.argus_contents.specs.declared.shape_fault.ShapeFault.{ShapeFault}
use Rattle.argus_texts.specs.{ShapeLanguages.{IsFilled, IsShallow, AreShallow, IsList}, ShapeSpelling.IsNamed}
use Rattle.argus_texts.specs.ShapeSpelling.{AreNamed, IsMakeable}

filled : (fs : PlainFields) → has_none (names_of fs) ≡ false → IsFilled fs
filled p h = grind arith

-- a list in a type
list_of : (k : ℕ) (fs : PlainFields) → has_none (names_of fs) || in_fields has_none fs ≡ false
    → has_too_many (names_of fs) || in_fields has_too_many fs ≡ false
    → (length (names_of fs) ≤ MAX_NAMES → in_fields has_none fs ≡ false → in_fields has_too_many fs ≡ false
    → AreShallow MAX_NAMES k fs) → IsList MAX_NAMES k fs
list_of k fs e m f = grind (arith, or_parts, filled, ltb-false)

mutual
  shallow : (k : ℕ) (t : PlainTy) → in_ty has_none t ≡ false → in_ty has_too_many t ≡ false → depth_of t ≤ k → IsNamed t
      → IsShallow k t
  shallow k (sequence x) e m d n = (omega arith, shallow (k - 1) x e m (omega arith) n)
  shallow k (fields fs) e m d n =
      let p = list_of (k - 1) fs e m (λ l a b. are_shallow MAX_NAMES (k - 1) fs l a b (omega arith) n) in
      (omega arith, p.0, p.1)
  shallow k (choice fs) e m d n =
      let p = list_of (k - 1) fs e m (λ l a b. are_shallow MAX_NAMES (k - 1) fs l a b (omega arith) n) in
      (omega arith, p.0, p.1)
  shallow k t e m d n = omega arith

  are_shallow : (n k : ℕ) (fs : PlainFields) → length (names_of fs) ≤ n → in_fields has_none fs ≡ false
      → in_fields has_too_many fs ≡ false → deepest_of fs ≤ k → AreNamed fs → AreShallow n k fs
  are_shallow n k none l e m d a = tt
  are_shallow n k (more name x fs) l e m d a =
      let p = or_parts (in_ty has_none x) (in_fields has_none fs) e in
      let q = or_parts (in_ty has_too_many x) (in_fields has_too_many fs) m in (
        omega arith,
        a.0,
        shallow k x p.0 q.0 (omega arith) a.1,
        are_shallow (n - 1) k fs (omega arith) p.1 q.1 (omega arith) a.2,
      )

no_then : (b : Bool) (x : ShapeFault) (r : Option ShapeFault) → (if b then Some x else r) ≡ None
    → (b ≡ false) × (r ≡ None)
no_then p x r e = grind arith

-- no fault applies
record NoFault (s : PlainShape) : Type 0 where
  none : anywhere has_none s ≡ false
  too_many : anywhere has_too_many s ≡ false
  depth : depth_in s ≤ MAX_VALUE_DEPTH

no_fault : (s : PlainShape) → fault_of s ≡ None → NoFault s
no_fault s e = grind (arith, no_then, ltb-false)

-- its types are as deep as the reader takes them
pub makeable_depth : (s : PlainShape) → IsMakeable s → depth_in s ≤ MAX_VALUE_DEPTH
makeable_depth s m = (no_fault s m.no_fault).depth

list_from : (fs : PlainFields) → AreNamed fs → has_none (names_of fs) || in_fields has_none fs ≡ false
    → has_too_many (names_of fs) || in_fields has_too_many fs ≡ false → deepest_of fs ≤ MAX_VALUE_DEPTH
    → IsList MAX_NAMES MAX_VALUE_DEPTH fs
list_from fs n e m d = list_of MAX_VALUE_DEPTH fs e m (λ l p q. are_shallow MAX_NAMES MAX_VALUE_DEPTH fs l p q d n)

-- of a record
pub fields_makeable : (fs : PlainFields) → IsMakeable (rec fs) → IsList MAX_NAMES MAX_VALUE_DEPTH fs
fields_makeable fs m = let f = no_fault (rec fs) m.no_fault in list_from fs m.named f.none f.too_many f.depth

-- of a variant
pub tags_makeable : (fs : PlainFields) → IsMakeable (var fs) → IsList MAX_NAMES MAX_VALUE_DEPTH fs
tags_makeable fs m = let f = no_fault (var fs) m.no_fault in list_from fs m.named f.none f.too_many f.depth

-- of an array
pub item_makeable : (t : PlainTy) → IsMakeable (arr t) → IsShallow MAX_VALUE_DEPTH t
item_makeable t m = let f = no_fault (arr t) m.no_fault in shallow MAX_VALUE_DEPTH t f.none f.too_many f.depth m.named

mutual
  -- what the reader asks for has names in form
  pub shallow_named : (k : ℕ) (t : PlainTy) → IsShallow k t → IsNamed t
  shallow_named k (sequence x) s = shallow_named (k - 1) x s.1
  shallow_named k (fields fs) s = are_shallow_named MAX_NAMES (k - 1) fs s.2
  shallow_named k (choice fs) s = are_shallow_named MAX_NAMES (k - 1) fs s.2
  shallow_named k t s = tt

  are_shallow_named : (n k : ℕ) (fs : PlainFields) → AreShallow n k fs → AreNamed fs
  are_shallow_named n k none s = tt
  are_shallow_named n k (more name x fs) s = (s.1, shallow_named k x s.2, are_shallow_named (n - 1) k fs s.3)
