-- What a log has, and when the trees of a database hold it.
use Rattle.std.specs.{Prelude.{◌≡◌, ℕ, ℤ, pos, ⊤, List, [], ◌∷◌, ◌++◌, map}, List.AllByRecursion, Ordering.int_cmp}
use Rattle.std.specs.declared.cmp.Ordering.TheVariants.{Less}
use Rattle.sqlite.specs.declared.types.Value.TheVariants.{Null, Int, Text as Words}
use Rattle.sqlite.specs.{Order.Row, Tree.Trees}

-- some lines of a journal's listing, the number of the first one's entry, and their sum
pub record Batch : Type 0 where
  pub first : ℤ
  pub lines : List ℕ
  pub sum : ℤ

-- a row of the last checkpoint's opening: its place there, and one line or more, with a line feed between any two
pub record OpeningLine : Type 0 where
  pub number : ℤ
  pub text : List ℕ

-- All that a log has: the row of `log`, with the number of the next entry and the last sum; the batches, in
-- the order of their entries; the opening, in the order of its lines; and the rows of the table `object`.
pub record Journal : Type 0 where
  pub name : List ℕ
  pub version : List ℕ
  pub epoch : ℤ
  pub is_open : ℤ
  pub next : ℤ
  pub sum : ℤ
  pub batches : List Batch
  pub opening : List OpeningLine
  pub objects : List Row

-- a log that nothing was appended to
abbrev pub new_journal : List ℕ → List ℕ → ℤ → Journal
new_journal name version sum = record {
  name = name;
  version = version;
  epoch = pos 0;
  is_open = pos 0;
  next = pos 0;
  sum = sum;
  batches = [];
  opening = [];
  objects = [];
}

-- the log that ends before this entry, with this sum
abbrev pub ending_at : Journal → ℤ → ℤ → Journal
ending_at j next sum = record j { next = next; sum = sum }

-- the log with one more batch, after which this entry comes next
abbrev pub with_batch : Journal → Batch → ℤ → Journal
with_batch j b next = record (ending_at j next b.sum) { batches = j.batches ++ b ∷ [] }

-- all lines of an opening as one row
abbrev pub one_row : List ℕ → List OpeningLine
one_row text = record { number = pos 0; text = text } ∷ []

-- the log with an opening in place of all lines
abbrev pub with_opening : Journal → List ℕ → Journal
with_opening j text = record j { batches = []; opening = one_row text }

-- these lines, from an entry on, with their sum
abbrev pub a_batch : ℤ → List ℕ → ℤ → Batch
a_batch first lines sum = record { first = first; lines = lines; sum = sum }

-- a batch as its row is kept, whose key stands in front; and as the row is shown
abbrev pub batch_row : Batch → Row
batch_row b = Int b.first ∷ Null ∷ Words b.lines ∷ Int b.sum ∷ []

abbrev pub shown_batch : Batch → Row
shown_batch b = Int b.first ∷ Words b.lines ∷ Int b.sum ∷ []

-- the same of a line of the opening
abbrev pub line_row : OpeningLine → Row
line_row l = Int l.number ∷ Null ∷ Words l.text ∷ []

abbrev pub shown_line : OpeningLine → Row
shown_line l = Int l.number ∷ Words l.text ∷ []

-- the row of `log`, as it is kept
abbrev pub log_row : Journal → Row
log_row j =
    Int (pos 0) ∷ Null ∷ Words j.name ∷ Words j.version ∷ Int j.epoch ∷ Int j.is_open ∷ Int j.next ∷
    Int j.sum ∷ []

-- where the log ends and whether it is open, as its row is shown
abbrev pub shown_end : Journal → Row
shown_end j = Words j.name ∷ Int j.next ∷ Int j.sum ∷ Int j.is_open ∷ []

-- the four tables have the log's rows and no others
pub record HoldsRows (db : Trees) (j : Journal) : Type 0 where
  pub log : db 0 ≡ log_row j ∷ []
  pub opening : db 1 ≡ map line_row j.opening
  pub batches : db 2 ≡ map batch_row j.batches
  pub objects : db 3 ≡ j.objects

-- each batch begins below this entry
abbrev pub AreBelow : ℤ → List Batch → Type 0
AreBelow next = AllByRecursion (λ (b : Batch). int_cmp b.first next ≡ Less)

-- each has a number above those of the ones before it, so there are no two with one number
abbrev pub AreRising : {X : Type 0} → (X → ℤ) → List X → Type 0
AreRising number [] = ⊤
AreRising number (x ∷ xs) = AllByRecursion (λ y. int_cmp (number x) (number y) ≡ Less) xs
    × AreRising number xs

abbrev pub first_of : Batch → ℤ
first_of b = b.first

abbrev pub number_of : OpeningLine → ℤ
number_of l = l.number

-- the database holds the log: its rows, the batches in order before the next entry, and the opening's lines in order
pub record HoldsLog (db : Trees) (j : Journal) : Type 0 where
  pub rows : HoldsRows db j
  pub rising : AreRising first_of j.batches
  pub below : AreBelow j.next j.batches
  pub lines : AreRising number_of j.opening
