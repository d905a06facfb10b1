-- The begin of all arms is the begin of those that are left, behind those so far.
use Rattle.std.proofs.Common.{drop, length, true, ◌≡◌}
use Rattle.argus_language.specs.PlainStep.{plain_steps}
use Rattle.argus_runs.specs.Running.{begin_all, with_front}
use Rattle.argus_runs.proofs.beginning.begin_arms.Given as goal

abbrev pub invariant-loop-arm : goal.invariant-loop-arm
invariant-loop-arm g l =
    let c = g.C.Caller.reply in let h = g.C.Caller.arm_runner in
    (length l.begun.items ≡ l.arm-index) × g.C.Caller.preserved l.initial.caller l.caller
    × (g.C.Caller.is_determined ≡ true → begin_all g.C.Caller.State c h (plain_steps l.arms) l.within
    (g.C.Caller.state l.initial.caller) ≡ with_front g.C.Caller.State c h l.begun.items (begin_all g.C.Caller.State c h
    (plain_steps (drop l.arm-index l.arms)) l.within (g.C.Caller.state l.caller))) × g.C.Caller.ready l.caller
