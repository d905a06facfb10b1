-- An action was begun under its parent, or else under its creator.
use Rattle.std.{proofs.Common.{ap, sym, ◌∙◌}, specs.Option.option_map}
use Rattle.argus_actions.specs.{Tree.row_of, declared.action_id.ActionId.ActionId}
use Rattle.argus_core.proofs.Under.{under_creator, under_parent}
use Rattle.argus_core.proofs.engine.discarding.begun_under.Goals as goal

pub returns-in-Some : goal.returns-in-Some
returns-in-Some c =
    under_parent (row_of c.args.tree.now c.args.a.0) c.in-Some.parent (sym c.parent.ensures ∙ c.in-Some.is)

pub returns-in-None : goal.returns-in-None
returns-in-None c =
    ap (option_map (λ (x : ActionId). x.0)) c.creator.ensures
    ∙ under_creator (row_of c.args.tree.now c.args.a.0) (sym c.parent.ensures ∙ c.in-None.is)
