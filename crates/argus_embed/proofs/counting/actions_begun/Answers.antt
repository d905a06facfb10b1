-- No more actions are begun than there may be.
use Rattle.std.proofs.Common.{arith}
use Rattle.argus_journal.proofs.Within.{actions_within}
use Rattle.argus_embed.proofs.counting.actions_begun.Goals as goal

pub loop-low-init : goal.loop-low-init
loop-low-init c =
    let journal = c.args.guardian.now in
    let within = actions_within journal.opening journal.entries c.journal_is_legal.ensures.limits.actions
    c.journal_is_legal.ensures.legal in
    record { low = omega arith; high = omega (arith, within); most = omega arith }
