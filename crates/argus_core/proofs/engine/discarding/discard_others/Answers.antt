-- An action whose siblings may be aborted was begun under another.
use Rattle.argus_actions.proofs.Accepted.{accepted_live, none_first}
use Rattle.argus_core.proofs.Under.{named_under, none_under, others_under}
use Rattle.std.proofs.{lemmas.Grind.common_steps, Common.arith}
use Rattle.argus_core.proofs.engine.discarding.discard_others.Goals as goal

pub discard_siblings-requires-clause-live : goal.discard_siblings-requires-clause-live
discard_siblings-requires-clause-live c =
    accepted_live c.args.tree.now c.args.a.0 (none_first _ _ (none_first _ _ c.requires.accepted))

pub discard_siblings-requires-clause-under : goal.discard_siblings-requires-clause-under
discard_siblings-requires-clause-under c = grind (arith, common_steps, named_under)

pub returns-in-None : goal.returns-in-None
returns-in-None c = grind (arith, common_steps, others_under, none_under)
