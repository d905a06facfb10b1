-- Where a step, an arm, a begin or a test stops, its state is a beginning of what the whole comes to.
use Rattle.std.proofs.Common.{Some, rules}
use Rattle.argus_language.specs.PlainStep.{block, plain_step, plain_steps}
use Rattle.argus_language.specs.declared.block_kind.BlockKind.TheVariants as opening
use Rattle.argus_runs.specs.Replies.{object_number_at, test_call}
use Rattle.argus_runs.specs.Running.{begin_all, begin_one, run_arms, run_arms_by_runner, run_step, run_steps}
use Rattle.argus_runs.proofs.StoppedRuns.{arm_early, arms_early, enter_early, is_block, steps_early, stops}
use Rattle.argus_runs.proofs.Growth.{enter_on, enter_on_grows, handed_grows, parts_grow, test_on, test_on_grows}
use Rattle.argus_runs.proofs.Growth.{within_then}
use Rattle.argus_runs.proofs.stepping.+run.Goals as goal

pub run_begun-returns-in_err-run_if_begun-clause-early : goal.run_begun-returns-in_err-run_if_begun-clause-early
run_begun-returns-in_err-run_if_begun-clause-early g t c =
    let k = g.C.Caller in let laws = g.met.C.Caller in
    let s = k.state c.args.caller.now in let u = k.state c.run_if_begun.new.caller in
    stops c.from_residual.result k.is_determined k.calls_extend k.is_prefix k.reply k.arm_runner u
    (run_arms k.State k.reply k.arm_runner c.args.numbers.now (plain_steps c.args.arms.now) c.args.begun.now s)
    laws.no_arm_runner laws.prefix_refl laws.prefix_trans laws.call_extends (λ d e l.
    arms_early l c.args.numbers.now c.args.arms.now c.args.begun.now c.loop-i.i c.index-arms-i.result s
    (k.state c.loop-i.caller) u c.loop-i-test.true c.requires.len c.index-arms-i.is (c.loop-i.invariant.1 d)
    (c.in_err-run_if_begun.ensures.early d e))

pub run_steps-returns-in_err-flow-clause-early : goal.run_steps-returns-in_err-flow-clause-early
run_steps-returns-in_err-flow-clause-early g t c =
    let k = g.C.Caller in let laws = g.met.C.Caller in
    let s = k.state c.args.caller.now in let u = k.state c.run_step.new.caller in
    stops c.from_residual.result k.is_determined k.calls_extend k.is_prefix k.reply k.arm_runner u
    (run_steps k.State k.reply k.arm_runner c.args.numbers.now (plain_steps c.args.steps.now) c.args.within s)
    laws.no_arm_runner laws.prefix_refl laws.prefix_trans laws.call_extends (λ d e l.
    steps_early l c.args.numbers.now c.args.steps.now c.loop-step.step-index c.step-item.result c.args.within s
    (k.state c.loop-step.caller) u c.loop-step-test.true c.step-item.is (c.loop-step.invariant.1 d)
    (c.in_err-flow.ensures.early d e))

pub run_coenter-returns-in_err-begun-clause-early : goal.run_coenter-returns-in_err-begun-clause-early
run_coenter-returns-in_err-begun-clause-early g t c =
    let k = g.C.Caller in let laws = g.met.C.Caller in
    let s = k.state c.args.caller.now in let u = k.state c.begin_arms.new.caller in
    stops c.from_residual.result k.is_determined k.calls_extend k.is_prefix k.reply k.arm_runner u
    (run_step k.State k.reply k.arm_runner c.args.numbers.now (block opening.Coenter (plain_steps c.args.arms.now))
    c.args.within s) laws.no_arm_runner laws.prefix_refl laws.prefix_trans laws.call_extends (λ d e l.
    let ps = plain_steps c.args.arms.now in
    within_then l u (begin_all k.State k.reply k.arm_runner ps c.args.within s)
    (run_arms_by_runner k.State k.reply k.arm_runner c.args.numbers.now ps) (c.in_err-begun.ensures.early d e)
    (handed_grows l c.args.numbers.now ps))

pub run_coenter-returns-in_err-arms-clause-early : goal.run_coenter-returns-in_err-arms-clause-early
run_coenter-returns-in_err-arms-clause-early g t c =
    let k = g.C.Caller in let laws = g.met.C.Caller in
    let s = k.state c.args.caller.now in let u = k.state c.arms.new.self in
    stops c.from_residual-in_err-arms.result k.is_determined k.calls_extend k.is_prefix k.reply k.arm_runner u
    (run_step k.State k.reply k.arm_runner c.args.numbers.now (block opening.Coenter (plain_steps c.args.arms.now))
    c.args.within s) laws.no_arm_runner laws.prefix_refl laws.prefix_trans laws.call_extends (λ d e l.
    rw (c.in_ok-begun.ensures.begun d) (rw (c.in_err-arms.ensures.early e)
    (handed_grows l c.args.numbers.now (plain_steps c.args.arms.now) c.in_ok-begun.begun.items
    (k.state c.begin_arms.new.caller))))

pub run_step-returns-in_err-begin-in-Enter-clause-early : goal.run_step-returns-in_err-begin-in-Enter-clause-early
run_step-returns-in_err-begin-in-Enter-clause-early g t c =
    let k = g.C.Caller in let laws = g.met.C.Caller in
    let s = k.state c.args.caller.now in let u = k.state c.begin.new.caller in
    stops c.from_residual-in_err-begin-in-Enter.result k.is_determined k.calls_extend k.is_prefix k.reply k.arm_runner u
    (run_step k.State k.reply k.arm_runner c.args.numbers.now (plain_step c.args.step.now) c.args.within s)
    laws.no_arm_runner laws.prefix_refl laws.prefix_trans laws.call_extends (λ d e l.
    let ps = plain_steps c.in-Block.body.items in
    rw (is_block c.args.step.now c.in-Block.opening (opening.Enter c.in-Enter.kind) c.in-Block.body c.in-Block.is
    c.in-Enter.is) (within_then l u (begin_one k.State k.reply k.arm_runner c.in-Enter.kind c.args.within s)
    (enter_on l c.args.numbers.now ps) (c.in_err-begin-in-Enter.ensures.early d e)
    (enter_on_grows l c.args.numbers.now ps (parts_grow l c.args.numbers.now ps))))

pub run_step-returns-in_err-flow-in-Some-2-clause-early : goal.run_step-returns-in_err-flow-in-Some-2-clause-early
run_step-returns-in_err-flow-in-Some-2-clause-early g t c =
    let k = g.C.Caller in let laws = g.met.C.Caller in
    let s = k.state c.args.caller.now in let u = k.state c.run_steps.new.caller in
    stops c.from_residual-in_err-flow-in-Some-2.result k.is_determined k.calls_extend k.is_prefix k.reply k.arm_runner u
    (run_step k.State k.reply k.arm_runner c.args.numbers.now (plain_step c.args.step.now) c.args.within s)
    laws.no_arm_runner laws.prefix_refl laws.prefix_trans laws.call_extends (λ d e l.
    rw (is_block c.args.step.now c.in-Block.opening (opening.Enter c.in-Enter.kind) c.in-Block.body c.in-Block.is
    c.in-Enter.is) (enter_early l c.args.numbers.now c.in-Enter.kind (plain_steps c.in-Block.body.items) c.args.within
    c.in-Some-2.action s (k.state c.begin.new.caller) u (rw c.in-Some-2.is at (c.in_ok-begin-in-Enter.ensures.told d))
    (rw c.deref.ensures.value at (c.in_err-flow-in-Some-2.ensures.early d e))))

pub run_step-returns-in_err-flow-in-Some-within-3-clause-early :
    goal.run_step-returns-in_err-flow-in-Some-within-3-clause-early
run_step-returns-in_err-flow-in-Some-within-3-clause-early g t c =
    let k = g.C.Caller in let laws = g.met.C.Caller in
    let s = k.state c.args.caller.now in let u = k.state c.run_steps-in-Some-within-3.new.caller in
    stops c.from_residual-in_err-flow-in-Some-within-3.result k.is_determined k.calls_extend k.is_prefix k.reply
    k.arm_runner u
    (run_step k.State k.reply k.arm_runner c.args.numbers.now (plain_step c.args.step.now) c.args.within s)
    laws.no_arm_runner laws.prefix_refl laws.prefix_trans laws.call_extends (λ d e l.
    rw (is_block c.args.step.now c.in-Block.opening (opening.Arm c.in-Arm.field-0) c.in-Block.body c.in-Block.is
    c.in-Arm.is) (rw c.in-Some-within-3.is
    (arm_early l c.args.numbers.now c.in-Arm.field-0 (plain_steps c.in-Block.body.items) c.in-Some-within-3.action s u
    (rw c.deref-in-Some-within-3.ensures.value at (c.in_err-flow-in-Some-within-3.ensures.early d e)))))

pub run_if-returns-in_err-reply-clause-early : goal.run_if-returns-in_err-reply-clause-early
run_if-returns-in_err-reply-clause-early g t c =
    let k = g.C.Caller in let laws = g.met.C.Caller in
    let s = k.state c.args.caller.now in let u = k.state c.call.new.self in
    stops c.from_residual.result k.is_determined k.calls_extend k.is_prefix k.reply k.arm_runner u
    (run_step k.State k.reply k.arm_runner c.args.numbers.now
    (block (opening.If c.args.lock c.args.x) (plain_steps c.args.body.now)) (Some c.args.action) s)
    laws.no_arm_runner laws.prefix_refl laws.prefix_trans laws.call_extends (λ d e l.
    let ps = plain_steps c.args.body.now in
    within_then l u (k.reply (test_call c.args.lock c.args.action (object_number_at c.args.numbers.now c.args.x)) s)
    (test_on l c.args.numbers.now ps c.args.action)
    (rw c.object_at.ensures at (rw c.call_to_test.ensures at (c.in_err-reply.ensures.early e)))
    (test_on_grows l c.args.numbers.now ps c.args.action (parts_grow l c.args.numbers.now ps)))

pub run_begun-loop-i-init : goal.run_begun-loop-i-init
run_begun-loop-i-init g t c = search rules
