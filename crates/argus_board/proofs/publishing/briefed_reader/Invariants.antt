-- A turn without a free place leaves all as it is.
use Rattle.argus_board.specs.Published.{IsSameShow}
use Rattle.argus_board.proofs.publishing.briefed_reader.Given as goal

abbrev pub invariant-loop-turn : goal.invariant-loop-turn
invariant-loop-turn g l = IsSameShow l.initial.writer l.writer
