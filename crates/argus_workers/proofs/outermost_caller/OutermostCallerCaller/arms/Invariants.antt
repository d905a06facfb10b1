-- What all arms tell is what the arms that are left tell behind those so far.
use Rattle.std.proofs.Common.{drop, ◌≡◌}
use Rattle.argus_language.specs.PlainStep.{plain_steps}
use Rattle.argus_workers.specs.{RunCheck.check_arms, State.check_state_of}
use Rattle.argus_workers.proofs.outermost_caller.OutermostCallerCaller.arms.Given as goal

abbrev pub invariant-loop-k : goal.invariant-loop-k
invariant-loop-k l = check_arms 0 l.numbers (plain_steps l.arms) l.begun (check_state_of l.initial.self.receipt_caller)
    ≡ check_arms l.k l.numbers (plain_steps (drop l.k l.arms)) (drop l.k l.begun) (check_state_of l.self.receipt_caller)
