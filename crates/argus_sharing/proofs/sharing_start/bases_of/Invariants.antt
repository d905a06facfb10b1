-- The contents so far are those of the objects so far.
use Rattle.std.proofs.Common.{map, ◌≡◌}
use Rattle.std.specs.List.{range_with_len}
use Rattle.argus_board.specs.Effects.{plain_contents}
use Rattle.argus_journal.specs.JournalFacts.{base_of}
use Rattle.argus_sharing.proofs.sharing_start.bases_of.Given as goal

abbrev pub invariant-loop-number : goal.invariant-loop-number
invariant-loop-number l =
    plain_contents l.bases.items ≡ map (base_of l.guardian.opening l.guardian.entries) (range_with_len 0 l.number)
