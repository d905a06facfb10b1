-- The caller is ready for the next call after each step.
use Rattle.argus_workers.proofs.arm_running.run_gated.Given as goal

abbrev pub invariant-loop-k : goal.invariant-loop-k
invariant-loop-k g l = g.C.Caller.ready l.caller
