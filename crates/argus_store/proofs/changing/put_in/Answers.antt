use Rattle.std.proofs.lemmas.Result.{IfOk-weaker}
use Rattle.argus_store.proofs.Transaction.{ran_as}
use Rattle.argus_store.proofs.changing.put_in.Goals as goal

pub returns-in-Fold-clause-ran : goal.returns-in-Fold-clause-ran
returns-in-Fold-clause-ran g c = rw c.in-Fold.is (ran_as _ _ c.replace.result c.replace.result _ _ c.replace.ensures.ran
    (IfOk-weaker c.replace.result _ _ (λ _ on. (on.0, on.1 c.args.end c.args.after))))
