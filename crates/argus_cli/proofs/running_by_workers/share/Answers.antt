-- A new guardian's seats are one more than the workers, and unused.
use Rattle.std.proofs.Common.{◌∙◌}
use Rattle.argus_journal.specs.Folding.{next_entry_number}
use Rattle.argus_cli.proofs.running_by_workers.share.Goals as goal

pub run_and_settle-requires-clause-start : goal.run_and_settle-requires-clause-start
run_and_settle-requires-clause-start g c κs within =
    c.requires.starts.1 ∙ (λ k. next_entry_number (c.requires.fresh.0 k) (c.requires.fresh.1 k))
