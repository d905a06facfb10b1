-- Where a step stops, its state is a beginning of what the whole script comes to.
use Rattle.std.proofs.Common.{sym, ◌∙◌}
use Rattle.argus_language.specs.{PlainStep.plain_step, Script.plain_script}
use Rattle.argus_runs.specs.Running.{run_script}
use Rattle.argus_runs.proofs.StoppedRuns.{declaration_early, stops, top_early, tops_early}
use Rattle.argus_runs.proofs.running.run_script.Goals as goal

pub returns-in_err-declare-clause-early : goal.returns-in_err-declare-clause-early
returns-in_err-declare-clause-early g c =
    let k = g.C.Caller in let laws = g.met.C.Caller in
    let s = k.state c.args.caller.now in let u = k.state c.declare.new.caller in
    let script = plain_script c.args.script.now in let m = run_script k.State k.reply k.arm_runner script s in
    let before = k.state c.loop-step.caller in
    stops c.from_residual.result k.is_determined k.calls_extend k.is_prefix k.reply k.arm_runner u m
    laws.no_arm_runner laws.prefix_refl laws.prefix_trans laws.call_extends (λ d e l.
    tops_early l script.objects.shapes c.loop-step.numbers.items c.steps-step-items.result.now c.loop-step.step-index
    c.step-item.result m before u c.loop-step-test.true c.step-item.is (c.loop-step.invariant.1 d)
    (declaration_early l script.objects.shapes c.loop-step.numbers.items (plain_step c.step-item.result) before u
    (sym c.is_declaration.ensures ∙ c.if-is_declaration.true)
    (rw c.shapes.ensures at (c.in_err-declare.ensures.early d e))))

pub returns-in_err-run_step-clause-early : goal.returns-in_err-run_step-clause-early
returns-in_err-run_step-clause-early g c =
    let k = g.C.Caller in let laws = g.met.C.Caller in
    let s = k.state c.args.caller.now in let u = k.state c.run_step.new.caller in
    let script = plain_script c.args.script.now in let m = run_script k.State k.reply k.arm_runner script s in
    let before = k.state c.loop-step.caller in
    stops c.from_residual-in_err-run_step.result k.is_determined k.calls_extend k.is_prefix k.reply k.arm_runner u m
    laws.no_arm_runner laws.prefix_refl laws.prefix_trans laws.call_extends (λ d e l.
    tops_early l script.objects.shapes c.loop-step.numbers.items c.steps-step-items.result.now c.loop-step.step-index
    c.step-item.result m before u c.loop-step-test.true c.step-item.is (c.loop-step.invariant.1 d)
    (top_early l script.objects.shapes c.loop-step.numbers.items (plain_step c.step-item.result) before u
    (sym c.is_declaration.ensures ∙ c.if-is_declaration.false)
    (rw c.as_slice.ensures.value at (c.in_err-run_step.ensures.early d e))))
