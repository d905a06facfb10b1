-- After a checkpoint, made or refused, the board follows the journal still, and the next number is the same.
use Rattle.std.proofs.Common.{arith, ◌++◌}
use Rattle.argus_sharing.proofs.Follow.{checkpoint_number, follows_checkpoint}
use Rattle.argus_sharing.proofs.locked.Locked.checkpoint.Goals as goal

pub returns-clause-board : goal.returns-clause-board
returns-clause-board g c =
    let was = c.self.inside.publishing in
    follows_checkpoint g.N.Board.opening_contents was.guardian c.checkpoint.new.self c.checkpoint.result
    (was.board.published ++ was.board.pending) c.journal_is_legal.ensures.sound c.journal_is_legal.ensures.legal
    c.self.invariant.2 c.checkpoint.ensures.ok c.checkpoint.ensures.err

pub invariant_of-self : goal.invariant_of-self
invariant_of-self g c =
    let inv = c.self.invariant in
    let same = checkpoint_number c.checkpoint.result c.self.inside.publishing.guardian c.checkpoint.new.self
    c.checkpoint.ensures.ok c.checkpoint.ensures.err in
    (inv.0, omega (arith, same, inv.1), returns-clause-board g c)
