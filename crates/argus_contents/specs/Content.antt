-- What the content of an object says, and the limits that an array keeps.
use Rattle.std.specs.Prelude.{ℕ, ℤ, ◌≤ℤ◌, ◌+ℤ◌, ◌≤◌, pos, List, length, Option, Some, None, Bool, int_lt, nat_le, not}
use Rattle.std.specs.Prelude.{◌&&◌}
use Rattle.argus_contents.specs.{Place.high_of, Value.{PlainValue, plain_value, plain_list}}
use Rattle.argus_contents.specs.{declared.content.Content.Content, declared.content.Content.TheVariants.{Rec, Arr, Var}}
use Rattle.argus_contents.specs.declared.limits.TheConstants.{MIN_BOUND, MAX_BOUND, MAX_ITEMS}

-- a plain content: the fields of a record, the low bound and the items of an array, the tag and the
-- value of a variant
pub data PlainContent : Type 0 where
  rec : List PlainValue → PlainContent
  arr : ℤ → List PlainValue → PlainContent
  var : ℕ → PlainValue → PlainContent

-- what a content says
abbrev pub plain_content : Content → PlainContent
plain_content (Rec fields) = rec (plain_list fields.items)
plain_content (Arr low items) = arr low (plain_list items.items)
plain_content (Var tag value) = var tag (plain_value value)

-- what a content says, which may be absent
abbrev pub plain_option : Option Content → Option PlainContent
plain_option None = None
plain_option (Some c) = Some (plain_content c)

-- an array begins at this bound instead
abbrev pub with_low : ℤ → PlainContent → PlainContent
with_low bound (rec vs) = rec vs
with_low bound (arr low vs) = arr bound vs
with_low bound (var tag v) = var tag v

-- an array with this low bound and this many items keeps the limits
pub record KeepsBounds (low : ℤ) (size : ℕ) : Type 0 where
  pub from : MIN_BOUND ≤ℤ low
  pub to : low ≤ℤ MAX_BOUND
  pub high : (low +ℤ pos size) ≤ℤ (MAX_BOUND +ℤ pos 1)
  pub items : size ≤ MAX_ITEMS

-- the test of these limits
abbrev pub is_within : ℤ → ℕ → Bool
is_within low size =
    (not (int_lt low MIN_BOUND) && not (int_lt MAX_BOUND low))
    && (not (int_lt MAX_BOUND (high_of low size)) && nat_le size MAX_ITEMS)

-- a present array keeps the limits
abbrev pub KeepsLimits : Option PlainContent → Type 0
KeepsLimits (Some (arr low vs)) = KeepsBounds low (length vs)
KeepsLimits None = Unit {0}
KeepsLimits (Some (rec vs)) = Unit {0}
KeepsLimits (Some (var tag v)) = Unit {0}
