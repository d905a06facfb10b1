-- A creator that nothing refuses was begun.
use Rattle.std.proofs.Common.{rules}
use Rattle.argus_actions.proofs.Accepted.{none_first, live_is_begun}
use Rattle.argus_actions.proofs.action_tree.ActionTree.begin_nested_reserved.Goals as goal

pub begin-requires-clause-between : goal.begin-requires-clause-between
begin-requires-clause-between c = live_is_begun c.args.self.now c.args.creator.0 (none_first _ _ c.requires.accepted)

pub begin-requires-clause-shallow : goal.begin-requires-clause-shallow
begin-requires-clause-shallow c = search rules
