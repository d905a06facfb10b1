-- Where a journal begins.
use Rattle.std.specs.{List.list_all, Option.option_and_then}
use Rattle.std.specs.Prelude.{Bool, List, None, Option, Some, [], false, length, map, slice_get, true, ℕ, ◌≤◌}
use Rattle.argus_contents.specs.{Content.{PlainContent, plain_option}, Fitting.is_fitting, Shape.PlainShape}
use Rattle.argus_contents.specs.{declared.content.Content.Content, declared.shape.Shape.Shape}
use Rattle.argus_contents.specs.declared.limits.TheConstants.{MAX_ACTIONS, MAX_OBJECTS}
use Rattle.argus_model.specs.History as model
use Rattle.argus_journal.specs.declared.limits.TheConstants.{MAX_FIRST_ENTRY}

-- what went before is folded: the objects stay with shape and content, the actions and entries are
-- forgotten
pub record Opening : Type 0 where
  -- in the order of the numbers, from 0
  pub objects : List (PlainShape × Option PlainContent)
  -- the number of the first action, and how many are folded
  pub first_action : ℕ
  -- the number of the first entry, and how many are folded
  pub first_entry : ℕ

-- without objects, actions and entries
abbrev pub empty : Opening
empty = record { objects = []; first_action = 0; first_entry = 0 }

-- the content of an object; none if it wasn't declared
abbrev pub content_in : List (PlainShape × Option PlainContent) → ℕ → Option PlainContent
content_in objects o = option_and_then (λ object. object.1) (slice_get objects o)

-- the opening of the history
abbrev pub model_opening : Opening → model.HistoryOpening (Option PlainContent)
model_opening s = record {
  contents = content_in s.objects;
  first_action = s.first_action;
  first_entry = s.first_entry;
}

-- an absent content fits every shape, and a present one fits no absent shape
abbrev pub fits_shape : Option PlainShape → ℕ → Option PlainContent → Bool
fits_shape shape n None = true
fits_shape None n (Some c) = false
fits_shape (Some shape) n (Some c) = is_fitting shape n c

-- each content of the opening fits its shape
abbrev pub is_sound : Opening → Bool
is_sound s = list_all (λ object. fits_shape (Some object.0) (length s.objects) object.1) s.objects

-- it has no more objects, actions and entries than the limits allow
pub record KeepsNumbers (s : Opening) : Type 0 where
  pub objects : length s.objects ≤ MAX_OBJECTS
  pub actions : s.first_action ≤ MAX_ACTIONS
  pub entries : s.first_entry ≤ MAX_FIRST_ENTRY

-- what an object with its content says
abbrev pub plain_object : Shape × Option Content → PlainShape × Option PlainContent
plain_object object = (object.0, plain_option object.1)

-- an opening of these parts
abbrev pub opening_at : List (PlainShape × Option PlainContent) → ℕ → ℕ → Opening
opening_at objects first_action first_entry =
    record { objects = objects; first_action = first_action; first_entry = first_entry }

-- the opening with these objects
abbrev pub opening_with : List (Shape × Option Content) → ℕ → ℕ → Opening
opening_with objects first_action first_entry =
    opening_at (map plain_object objects) first_action first_entry
