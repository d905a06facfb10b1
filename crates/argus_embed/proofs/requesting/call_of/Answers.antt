-- The numbers of the action and the object are within 32 bits, and so is what is asked or changed.
use Rattle.argus_embed.proofs.requesting.call_of.Goals as goal

pub returns-in_ok-query_of-in-9-to-18-clause-readable : goal.returns-in_ok-query_of-in-9-to-18-clause-readable
returns-in_ok-query_of-in-9-to-18-clause-readable c =
    let ids = c.ids_of.ensures in
    ((ids.action.1, ids.object.1, c.in_ok-query_of-in-9-to-18.ensures.within), tt)

pub returns-in_ok-change_of-in_default-clause-readable : goal.returns-in_ok-change_of-in_default-clause-readable
returns-in_ok-change_of-in_default-clause-readable c =
    let ids = c.ids_of.ensures in
    ((ids.action.1, ids.object.1, c.in_ok-change_of-in_default.ensures.within), tt)
