-- The count of live children says whether there is one.
use Rattle.std.proofs.Common.{ltb, sym, ◌∙◌, ap}
use Rattle.argus_actions.proofs.Begun.{is_live_under_is}
use Rattle.argus_actions.proofs.action_tree.ActionTree.has_live_child.Goals as goal

pub returns-clause-value : goal.returns-clause-value
returns-clause-value c =
    ap (ltb 0) c.live_children.ensures.value ∙ sym (is_live_under_is c.args.self.now.rows c.args.a.0)

pub returns-clause-folded : goal.returns-clause-folded
returns-clause-folded c = λ low. ap (ltb 0) (c.live_children.ensures.folded low)

pub returns-clause-unbegun : goal.returns-clause-unbegun
returns-clause-unbegun c = λ past. ap (ltb 0) (c.live_children.ensures.unbegun past)
