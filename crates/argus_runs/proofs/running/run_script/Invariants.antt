-- The run of the script is the run of the steps that are left, from the state so far.
use Rattle.std.proofs.Common.{drop, true, ◌≡◌}
use Rattle.argus_language.specs.{PlainStep.plain_steps, Script.plain_script}
use Rattle.argus_runs.specs.Running.{run_script, run_tops}
use Rattle.argus_runs.proofs.running.run_script.Given as goal

abbrev pub invariant-loop-step : goal.invariant-loop-step
invariant-loop-step g l =
    let c = g.C.Caller.reply in let h = g.C.Caller.arm_runner in
    g.C.Caller.preserved l.initial.caller l.caller
    × (g.C.Caller.is_determined ≡ true → run_script g.C.Caller.State c h (plain_script l.script)
    (g.C.Caller.state l.initial.caller)
    ≡ run_tops g.C.Caller.State c h (plain_script l.script).objects.shapes l.numbers.items
    (plain_steps (drop l.step-index l.step-items)) (g.C.Caller.state l.caller)) × g.C.Caller.ready l.caller
