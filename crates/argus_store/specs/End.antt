-- Where a log ends.
use Rattle.std.specs.Prelude.{◌≡◌, ℕ, ◌+◌, pos, List, []}
use Rattle.argus_store.specs.{declared.end.End.End, Journal.{Journal, a_batch, ending_at, with_batch, with_opening}}
use Rattle.argus_store.specs.Summing.{entries_in, log_sum}

-- of a new log of this name
abbrev pub end_of_new : List ℕ → End
end_of_new name = record { next = 0; sum = log_sum name 0 0 [] }

-- behind these lines, in the log of this name
abbrev pub end_after : List ℕ → End → List ℕ → End
end_after name end lines = record {
  next = end.next + entries_in lines;
  sum = log_sum name end.next end.sum lines;
}

-- the log has this name, and ends there
pub record EndsAt (j : Journal) (name : List ℕ) (end : End) : Type 0 where
  pub name_is : j.name ≡ name
  pub next_is : j.next ≡ pos end.next
  pub sum_is : j.sum ≡ pos end.sum

-- the log with the lines behind it: their batch has the number of the first of them, and the sum over the log's
-- name, that number, the sum before it and the lines
abbrev pub with_lines : Journal → List ℕ → End → List ℕ → Journal
with_lines j name end lines = with_batch j (a_batch (pos end.next) lines (pos (end_after name end lines).sum))
    (pos (end_after name end lines).next)

-- behind an opening in place of all lines, in the log of this name that ended here
abbrev pub end_folded : List ℕ → End → List ℕ → End
end_folded name end opening = record { next = end.next; sum = log_sum name end.next 0 opening }

-- the log with that opening, whose sum is over the log's name, the entry that comes next, 0, and the opening
abbrev pub folded : Journal → List ℕ → End → List ℕ → Journal
folded j name end opening =
    with_opening (ending_at j (pos end.next) (pos (end_folded name end opening).sum)) opening
