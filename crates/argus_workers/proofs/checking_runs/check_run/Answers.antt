-- Receipts that were told whole and in order show the run.
use Rattle.std.proofs.Common.{refl}
use Rattle.argus_language.specs.Script.{plain_script}
use Rattle.argus_workers.specs.State.{check_state_of}
use Rattle.argus_workers.proofs.CheckedRuns.{arms_are_shown}
use Rattle.argus_workers.proofs.checking_runs.check_run.Goals as goal

pub returns-then-is_whole : goal.returns-then-is_whole
returns-then-is_whole c =
    let end = check_state_of c.run_script.new.caller.receipt_caller in
    let run = rw c.in_ok-with_capacity.ensures.items at (rw c.new.ensures.items at (c.in-Ok.ensures.told refl)) in
    let whole = c.is_whole.ensures c.if-is_whole.true in (
      c.in-Ok._numbers.items,
      end,
      run,
      whole,
      arms_are_shown (plain_script c.args.script.now) _ c.in-Ok._numbers.items end run whole.0,
      refl,
    )
