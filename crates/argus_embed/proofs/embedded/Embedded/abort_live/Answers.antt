-- Each abort can be read back.
use Rattle.argus_embed.proofs.Listings.{all_aborted_read, part_aborted_read}
use Rattle.argus_embed.proofs.embedded.Embedded.abort_live.Goals as goal

pub invariant_of-self : goal.invariant_of-self
invariant_of-self c =
    part_aborted_read c.self.inside.guardian c.self.invariant c.journal_is_legal.ensures.legal
    c.journal_is_legal.ensures.limits c.abort_live.new.self c.in_err-abort_live.ensures.err

pub invariant_of-self-2 : goal.invariant_of-self-2
invariant_of-self-2 c =
    all_aborted_read c.self.inside.guardian c.self.invariant c.journal_is_legal.ensures.legal
    c.journal_is_legal.ensures.limits c.abort_live.new.self c.in_ok-abort_live.ensures.ok
