-- A call that is no commit adds no effect, so the board goes on as it is.
use Rattle.argus_entries.specs.Call.{plain_call}
use Rattle.argus_sharing.proofs.Follow.{goes_on_if}
use Rattle.argus_sharing.proofs.publishing_guardian.PublishingGuardian.answer_other.Goals as goal

pub returns-clause-made : goal.returns-clause-made
returns-clause-made g c =
    goes_on_if c.call.result c.args.self.now.guardian c.call.new.self (plain_call c.args.call) c.args.self.now.board
    c.requires c.call.ensures.ok
