-- A parent that nothing refuses was begun.
use Rattle.std.proofs.Common.{rules}
use Rattle.argus_actions.proofs.Accepted.{none_first, live_is_begun}
use Rattle.argus_actions.proofs.action_tree.ActionTree.begin_sub_reserved.Goals as goal

pub begin-requires-clause-between : goal.begin-requires-clause-between
begin-requires-clause-between c = live_is_begun c.args.self.now c.args.parent.0 (none_first _ _ c.requires.accepted)

pub returns-clause-tree : goal.returns-clause-tree
returns-clause-tree c = search rules
