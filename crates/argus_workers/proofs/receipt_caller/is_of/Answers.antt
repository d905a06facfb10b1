-- The test tells where the receipt's call is this call.
use Rattle.argus_entries.specs.{Call.plain_call, Decided.call_answered}
use Rattle.argus_workers.proofs.receipt_caller.is_of.Goals as goal

pub returns : goal.returns
returns c = call_answered c.eq.result (plain_call c.args.receipt.now.call) (plain_call c.args.call.now) c.eq.ensures
