-- Answered outright, so that nothing is searched for.
use Rattle.std.proofs.{Common.{arith, rules}, lemmas.Grind.common_steps}
use Rattle.argus_texts.proofs.shape_writing.append_shape.Goals as goal

pub returns-in_err-append-in-Rec-clause-grew : goal.returns-in_err-append-in-Rec-clause-grew
returns-in_err-append-in-Rec-clause-grew c = search rules

pub returns-in_err-append-in-Rec-clause-written : goal.returns-in_err-append-in-Rec-clause-written
returns-in_err-append-in-Rec-clause-written c = search rules

pub returns-in_err-append-in-Arr-clause-grew : goal.returns-in_err-append-in-Arr-clause-grew
returns-in_err-append-in-Arr-clause-grew c = search rules

pub returns-in_err-append-in-Arr-clause-written : goal.returns-in_err-append-in-Arr-clause-written
returns-in_err-append-in-Arr-clause-written c = search rules

pub returns-in_err-append_ty-in-Arr-clause-grew : goal.returns-in_err-append_ty-in-Arr-clause-grew
returns-in_err-append_ty-in-Arr-clause-grew c = grind (arith, common_steps)

pub returns-in_err-append_ty-in-Arr-clause-written : goal.returns-in_err-append_ty-in-Arr-clause-written
returns-in_err-append_ty-in-Arr-clause-written c = search rules

pub returns-in_err-append-in-Var-clause-grew : goal.returns-in_err-append-in-Var-clause-grew
returns-in_err-append-in-Var-clause-grew c = search rules

pub returns-in_err-append-in-Var-clause-written : goal.returns-in_err-append-in-Var-clause-written
returns-in_err-append-in-Var-clause-written c = search rules

pub returns-in_ok-append-in-Rec-clause-grew : goal.returns-in_ok-append-in-Rec-clause-grew
returns-in_ok-append-in-Rec-clause-grew c = grind (arith, common_steps)

pub returns-in_ok-append-in-Rec-clause-written : goal.returns-in_ok-append-in-Rec-clause-written
returns-in_ok-append-in-Rec-clause-written c = grind (arith, common_steps)

pub returns-in_ok-append_ty-in-Arr-clause-grew : goal.returns-in_ok-append_ty-in-Arr-clause-grew
returns-in_ok-append_ty-in-Arr-clause-grew c = grind (arith, common_steps)

pub returns-in_ok-append_ty-in-Arr-clause-written : goal.returns-in_ok-append_ty-in-Arr-clause-written
returns-in_ok-append_ty-in-Arr-clause-written c = grind (arith, common_steps)

pub returns-in_ok-append-in-Var-clause-grew : goal.returns-in_ok-append-in-Var-clause-grew
returns-in_ok-append-in-Var-clause-grew c = grind (arith, common_steps)

pub returns-in_ok-append-in-Var-clause-written : goal.returns-in_ok-append-in-Var-clause-written
returns-in_ok-append-in-Var-clause-written c = grind (arith, common_steps)
