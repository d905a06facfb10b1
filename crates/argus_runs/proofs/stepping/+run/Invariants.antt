-- The run of the steps, or of the arms, is the run of those that are left, from the state so far.
use Rattle.std.proofs.Common.{drop, true, ◌≡◌}
use Rattle.argus_language.specs.PlainStep.{plain_steps}
use Rattle.argus_runs.specs.Running.{run_arms, run_steps}
use Rattle.argus_runs.proofs.stepping.+run.Given as goal

abbrev pub invariant-run_steps-loop-step : goal.invariant-run_steps-loop-step
invariant-run_steps-loop-step g l =
    let c = g.C.Caller.reply in let h = g.C.Caller.arm_runner in
    g.C.Caller.preserved l.initial.caller l.caller
    × (g.C.Caller.is_determined ≡ true → run_steps g.C.Caller.State c h l.numbers (plain_steps l.steps)
    l.within (g.C.Caller.state l.initial.caller)
    ≡ run_steps g.C.Caller.State c h l.numbers (plain_steps (drop l.step-index l.steps))
    l.within (g.C.Caller.state l.caller)) × g.C.Caller.ready l.caller

abbrev pub invariant-run_begun-loop-i : goal.invariant-run_begun-loop-i
invariant-run_begun-loop-i g l =
    let c = g.C.Caller.reply in let h = g.C.Caller.arm_runner in
    g.C.Caller.preserved l.initial.caller l.caller
    × (g.C.Caller.is_determined ≡ true → run_arms g.C.Caller.State c h l.numbers (plain_steps l.arms)
    l.begun (g.C.Caller.state l.initial.caller)
    ≡ run_arms g.C.Caller.State c h l.numbers (plain_steps (drop l.i l.arms)) (drop l.i l.begun)
    (g.C.Caller.state l.caller)) × g.C.Caller.ready l.caller
