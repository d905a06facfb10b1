-- The rule of the board takes one place more, which has seen nothing.
use Rattle.argus_board.proofs.Rule.{admits}
use Rattle.argus_board.proofs.looker.Looker.at.Goals as goal

pub reader-requires : goal.reader-requires
reader-requires g c = admits _ _ _
