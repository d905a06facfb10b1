-- Queues say the same where their items do, one by one.
use Rattle.std.proofs.Common.{◌∙◌}
use Rattle.argus_contents.proofs.Lists.{one_by_one}
use Rattle.argus_contents.proofs.content.have_same_items.Goals as goal

pub returns : goal.returns
returns c = c.eq.ensures ∙ one_by_one c.args.a.now.items c.args.b.now.items
