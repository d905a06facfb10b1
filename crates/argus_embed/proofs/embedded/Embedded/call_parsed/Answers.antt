-- The call can be read back, so its journal can be, too.
use Rattle.argus_journal.specs.Call.{plain_call}
use Rattle.argus_embed.proofs.Listings.{call_read}
use Rattle.argus_embed.proofs.embedded.Embedded.call_parsed.Goals as goal

pub invariant_of-self-2 : goal.invariant_of-self-2
invariant_of-self-2 c =
    call_read c.self.inside.guardian c.call.new.self (plain_call c.parsed.inside.call) c.in_ok-reply.ensures.ok
    c.self.invariant c.parsed.invariant
