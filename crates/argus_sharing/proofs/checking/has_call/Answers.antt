-- The test tells where the entry's call is the receipt's.
use Rattle.argus_entries.specs.{Decided.call_answered, Call.plain_call}
use Rattle.argus_sharing.proofs.checking.has_call.Goals as goal

pub returns : goal.returns
returns c = call_answered c.eq.result (plain_call c.args.entry.now.call) (plain_call c.args.receipt.now.call)
    c.eq.ensures
