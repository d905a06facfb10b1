-- A checkpoint: the entries of a journal, folded into an opening.
use Rattle.std.specs.Prelude.{List, Option, [], length, suc, ℕ, ◌+◌, ◌∷◌}
use Rattle.argus_contents.specs.{Content.PlainContent, Shape.PlainShape}
use Rattle.argus_entries.specs.Entry.{PlainEntry}
use Rattle.argus_journal.specs.{Objects.shapes, Opening.Opening, JournalFacts.{base_of, next_action_number}}

-- objects of these shapes, each with the content that the function returns for its number
abbrev pub with_contents : (ℕ → Option PlainContent) → List PlainShape
    → List (PlainShape × Option PlainContent)
with_contents content [] = []
with_contents content (shape ∷ shapes) =
    (shape, content 0) ∷ with_contents (λ o. content (suc o)) shapes

-- the number that the next entry gets
abbrev pub next_entry_number : Opening → List PlainEntry → ℕ
next_entry_number s j = s.first_entry + length j

-- the opening that goes on where the journal ends: the objects with their bases, and the next
-- numbers
abbrev pub fold : Opening → List PlainEntry → Opening
fold s j = record {
  objects = with_contents (base_of s j) (shapes s j);
  first_action = next_action_number s j;
  first_entry = next_entry_number s j;
}
