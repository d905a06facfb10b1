-- A change that suits a shape is no deeper than the shape's types.
use Rattle.std.proofs.{Common.{◌≡◌, ℕ, true}, lemmas.Bool.false≢true}
use Rattle.argus_contents.specs.Change.{PlainChange, addh, addl, change_tag, create, set_field, store}
use Rattle.argus_contents.specs.{Shape.{IsMakeable, PlainShape, arr, rec, var}, Fitting.{change_suits, field_suits}}
use Rattle.argus_contents.specs.{Fitting.{item_suits, tag_suits}, Value.PlainValue}
use Rattle.argus_contents.specs.declared.limits.TheConstants.{MAX_VALUE_DEPTH}
use Rattle.argus_texts.{specs.Spelling.Within, proofs.Fitting.{fitting_depth, typed_at_within, typed_within}}
use Rattle.argus_texts.proofs.Makeable.{makeable_depth}
use Rattle.argus_entries.specs.Laws.{ChangeWithin}

field_depth : (s : PlainShape) (n k i : ℕ) (v : PlainValue) → IsMakeable s → field_suits s n i v ≡ true → Within k v
    → Within MAX_VALUE_DEPTH v
field_depth (rec fs) n k i v m e w = typed_at_within fs i n MAX_VALUE_DEPTH k v e (makeable_depth (rec fs) m) w
field_depth _ n k i v m e w = absurd (false≢true e)

item_depth : (s : PlainShape) (n k : ℕ) (v : PlainValue) → IsMakeable s → item_suits s n v ≡ true → Within k v
    → Within MAX_VALUE_DEPTH v
item_depth (arr t) n k v m e w = typed_within t n MAX_VALUE_DEPTH k v e (makeable_depth (arr t) m) w
item_depth _ n k v m e w = absurd (false≢true e)

tag_depth : (s : PlainShape) (n k t : ℕ) (v : PlainValue) → IsMakeable s → tag_suits s n t v ≡ true → Within k v
    → Within MAX_VALUE_DEPTH v
tag_depth (var fs) n k t v m e w = typed_at_within fs t n MAX_VALUE_DEPTH k v e (makeable_depth (var fs) m) w
tag_depth _ n k t v m e w = absurd (false≢true e)

-- a change that suits a shape that can be made has values such as a reader takes
pub suiting_depth : (s : PlainShape) (n k : ℕ) (c : PlainChange) → IsMakeable s → change_suits s n c ≡ true
    → ChangeWithin k c → ChangeWithin MAX_VALUE_DEPTH c
suiting_depth s n k (create c) m e w = fitting_depth s n k c m e w
suiting_depth s n k (set_field i v) m e w = (w.0, field_depth s n k i v m e w.1)
suiting_depth s n k (store i v) m e w = (w.0, item_depth s n k v m e w.1)
suiting_depth s n k (addh v) m e w = item_depth s n k v m e w
suiting_depth s n k (addl v) m e w = item_depth s n k v m e w
suiting_depth s n k (change_tag t v) m e w = (w.0, tag_depth s n k t v m e w.1)
suiting_depth s n k _ m e w = w
