-- What is in the guardian's objects for good is what the effects of its journal leave.
use Rattle.argus_sharing.proofs.Bases.{bases_lead}
use Rattle.argus_sharing.proofs.sharing_start.board_of.Goals as goal

pub without_places-requires-clause-first : goal.without_places-requires-clause-first
without_places-requires-clause-first g c =
    bases_lead c.args.guardian.now c.contents_fit.ensures.base g.N.Board.opening_contents g.N.Board.before
    g.N.Board.first
    c.journal_is_legal.ensures.legal c.requires.starts.3 c.requires.starts.2 c.requires.starts.4

pub new-requires-clause-first : goal.new-requires-clause-first
new-requires-clause-first g c =
    bases_lead c.args.guardian.now c.contents_fit.ensures.base g.N.Board.opening_contents g.N.Board.before
    g.N.Board.first
    c.journal_is_legal.ensures.legal c.requires.starts.3 c.requires.starts.2 c.requires.starts.4
