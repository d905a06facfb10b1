-- Where the begin of an arm stops, its state is a beginning of what the begin of all comes to.
use Rattle.argus_language.specs.PlainStep.{plain_steps}
use Rattle.argus_runs.specs.Running.{begin_all}
use Rattle.argus_runs.proofs.StoppedRuns.{begins_early, stops}
use Rattle.argus_runs.proofs.beginning.begin_arms.Goals as goal

pub returns-in_err-action-clause-early : goal.returns-in_err-action-clause-early
returns-in_err-action-clause-early g c =
    let k = g.C.Caller in let laws = g.met.C.Caller in
    let s = k.state c.args.caller.now in let u = k.state c.begin_arm.new.caller in
    stops c.from_residual.result k.is_determined k.calls_extend k.is_prefix k.reply k.arm_runner u
    (begin_all k.State k.reply k.arm_runner (plain_steps c.args.arms.now) c.args.within s)
    laws.no_arm_runner laws.prefix_refl laws.prefix_trans laws.call_extends (λ d e l.
    begins_early l c.args.arms.now c.loop-arm.arm-index c.arm-item.result c.loop-arm.begun.items c.args.within s
    (k.state c.loop-arm.caller) u c.loop-arm-test.true c.arm-item.is (c.loop-arm.invariant.2 d)
    (c.in_err-action.ensures.early d e))

pub returns-in_err-push-clause-early : goal.returns-in_err-push-clause-early
returns-in_err-push-clause-early g c =
    let k = g.C.Caller in let laws = g.met.C.Caller in
    let s = k.state c.args.caller.now in let u = k.state c.begin_arm.new.caller in
    stops c.from_residual-in_err-push.result k.is_determined k.calls_extend k.is_prefix k.reply k.arm_runner u
    (begin_all k.State k.reply k.arm_runner (plain_steps c.args.arms.now) c.args.within s)
    laws.no_arm_runner laws.prefix_refl laws.prefix_trans laws.call_extends (λ d e l.
    begins_early l c.args.arms.now c.loop-arm.arm-index c.arm-item.result c.loop-arm.begun.items c.args.within s
    (k.state c.loop-arm.caller) u c.loop-arm-test.true c.arm-item.is (c.loop-arm.invariant.2 d)
    (rw (c.in_ok-action.ensures.told d) (l.same u)))
