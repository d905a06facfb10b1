-- A value is no deeper than its type.
use Rattle.std.proofs.{Common.{◌≡◌, ℕ, zero, suc, ◌≤◌, ◌<◌, ◌-◌, true, arith}, lemmas.Bool.{and_parts, false≢true}}
use Rattle.argus_contents.specs.{Content.PlainContent, Fitting.is_fitting, Ty.{more, PlainTy, PlainFields, null, bool}}
use Rattle.argus_contents.specs.{Ty.{int, text, atomic, sequence, fields, choice, none}, Shape.{PlainShape, rec, arr}}
use Rattle.argus_contents.specs.{Shape.{var, depth_of, deepest_of, depth_in, IsMakeable}, Typing.{is_typed, all_typed}}
use Rattle.argus_contents.specs.{Typing.{each_typed, is_typed_at}, Value.{PlainValue, PlainValues, listed}}
use Rattle.argus_contents.specs.declared.limits.TheConstants.{MAX_VALUE_DEPTH}
use Rattle.argus_texts.specs.{ContentSpelling.PartsWithin, Spelling.{Within, AllWithin}}
use Rattle.argus_texts.proofs.Makeable.{makeable_depth}
use Rattle.argus_contents.specs.Content as content
use Rattle.argus_contents.specs.Value as value

has_depth : (t : PlainTy) → 0 < depth_of t
has_depth null = omega arith
has_depth t = omega arith

-- the type of a tag's value
record TagType (fs : PlainFields) (n : ℕ) (v : PlainValue) : Type 0 where
  type : PlainTy
  typed : is_typed type n v ≡ true
  depth : depth_of type ≤ deepest_of fs

tag_type : (fs : PlainFields) (t n : ℕ) (v : PlainValue) → is_typed_at fs t n v ≡ true → TagType fs n v
tag_type none t n v e = absurd (false≢true e)
tag_type (more name x fs) zero n v e = record { type = x; typed = e; depth = omega arith }
tag_type (more name x fs) (suc t) n v e = grind (arith, tag_type fs t n v e)

mutual
  -- a value of a type is as deep as the type at most
  pub typed_within : (t : PlainTy) (n d k : ℕ) (v : PlainValue) → is_typed t n v ≡ true → depth_of t ≤ d → Within k v
      → Within d v
  typed_within t n d k value.null e l w = let p = has_depth t in omega arith
  typed_within t n d k (value.bool b) e l w = let p = has_depth t in omega arith
  typed_within t n d k (value.int i) e l w = let p = has_depth t in (omega arith, w.1)
  typed_within t n d k (value.text s) e l w = let p = has_depth t in (omega arith, w.1)
  typed_within t n d k (value.atomic o) e l w = let p = has_depth t in (omega arith, w.1)
  typed_within (sequence x) n d k (value.sequence vs) e l w =
      (omega arith, all_within x n (d - 1) (k - 1) vs e (omega arith) w.1)
  typed_within (fields fs) n d k (value.fields vs) e l w =
      (omega arith, each_within fs n (d - 1) (k - 1) vs e (omega arith) w.1)
  typed_within (choice fs) n d k (value.choice t v) e l w =
      let r = tag_type fs t n v e in let m = r.depth in
      (omega arith, w.1, typed_within r.type n (d - 1) (k - 1) v r.typed (omega arith) w.2)
  typed_within t n d k v e l w = absurd (false≢true e)

  all_within : (x : PlainTy) (n d k : ℕ) (vs : PlainValues) → all_typed x n vs ≡ true → depth_of x ≤ d
      → AllWithin k vs → AllWithin d vs
  all_within x n d k value.none e l w = tt
  all_within x n d k (value.more v vs) e l w =
      let p = and_parts (is_typed x n v) (all_typed x n vs) e in
      (typed_within x n d k v p.0 l w.0, all_within x n d k vs p.1 l w.1)

  each_within : (fs : PlainFields) (n d k : ℕ) (vs : PlainValues) → each_typed fs n vs ≡ true → deepest_of fs ≤ d
      → AllWithin k vs → AllWithin d vs
  each_within fs n d k value.none e l w = tt
  each_within none n d k (value.more v vs) e l w = absurd (false≢true e)
  each_within (more name x fs) n d k (value.more v vs) e l w =
      let p = and_parts (is_typed x n v) (each_typed fs n vs) e in
      (typed_within x n d k v p.0 (omega arith) w.0, each_within fs n d k vs p.1 (omega arith) w.1)

-- so is a value of a field's or a tag's type, of a list whose types are no deeper
pub typed_at_within : (fs : PlainFields) (t n d k : ℕ) (v : PlainValue) → is_typed_at fs t n v ≡ true
    → deepest_of fs ≤ d → Within k v → Within d v
typed_at_within fs t n d k v e l w =
    let r = tag_type fs t n v e in let m = r.depth in typed_within r.type n d k v r.typed (omega arith) w

fitting_within : (s : PlainShape) (n d k : ℕ) (c : PlainContent) → depth_in s ≤ d → is_fitting s n c ≡ true
    → PartsWithin k c → PartsWithin d c
fitting_within (rec fs) n d k (content.rec vs) l e w = each_within fs n d k (listed vs) e l w
fitting_within (arr t) n d k (content.arr low vs) l e w = grind (arith, and_parts, all_within)
fitting_within (var fs) n d k (content.var t v) l e w = (w.0, typed_at_within fs t n d k v e l w.1)
fitting_within s n d k c l e w = absurd (false≢true e)

-- a content that fits a shape that can be made is as deep as the reader takes it
pub fitting_depth : (s : PlainShape) (n k : ℕ) (c : PlainContent) → IsMakeable s → is_fitting s n c ≡ true
    → PartsWithin k c → PartsWithin MAX_VALUE_DEPTH c
fitting_depth s n k c m e w = fitting_within s n MAX_VALUE_DEPTH k c (makeable_depth s m) e w
