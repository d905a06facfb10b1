-- So many absent objects stand at the end, and there is room for the rest.
use Rattle.std.proofs.Common.{replicate, ◌++◌, ◌+◌, ◌-◌, ◌≡◌, ◌≤◌}
use Rattle.std.specs.{Prelude.None, Vec.{vec_capacity, vec_len}}
use Rattle.argus_board.proofs.writing.pad.Given as goal

abbrev pub invariant-loop-more : goal.invariant-loop-more
invariant-loop-more l =
    (l.contents.items ≡ l.initial.contents.items ++ replicate l._more None)
    × (vec_len l.contents + (l.missing - l._more) ≤ vec_capacity l.contents)
