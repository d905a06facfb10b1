-- The rule of the board lets a new place learn all that the writer has seen.
use Rattle.argus_board.proofs.Rule.{admits, forks, merges}
use Rattle.argus_board.proofs.publishing.try_briefed_reader.Goals as goal

pub reader-requires : goal.reader-requires
reader-requires g c = admits _ _ _

pub tell-requires : goal.tell-requires
tell-requires g c = forks _ _ _ _ _

pub learn-requires-clause-rule : goal.learn-requires-clause-rule
learn-requires-clause-rule g c = merges _ _ _ _ _ _ _
