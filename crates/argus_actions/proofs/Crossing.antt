-- A tree may go to another thread, and be looked at from there: as a set for `search`, `crosses`.
use denote.Param.Send.{IsSend, IsSync}
use Rattle.argus_actions.specs.contracts.action_tree.ActionTree.{the_row}
use Rattle.argus_actions.proofs.action_tree.ActionTree.TheSendSync.{the_send, the_sync}
use Rattle.argus_memory.proofs.Crossing as memory

pub tree_sends : IsSend the_row
tree_sends = the_send

pub tree_syncs : IsSync the_row
tree_syncs = the_sync

pub ruleset crosses = (memory.crosses, tree_sends, tree_syncs)
