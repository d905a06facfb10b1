-- Fewer holders stay in order and lawful.
use Rattle.std.proofs.{Common.{Bool, not, eqb, arith}, lemmas.Grind.common_steps}
use Rattle.argus_actions.specs.declared.action_id.ActionId.{ActionId}
use Rattle.argus_objects.proofs.{InOrder.length_filter_le, Lawful.{Kept, kept_less}}
use Rattle.argus_objects.proofs.cell.Cell.release.Goals as goal

kept : (c : goal.Joined-take_version) → Kept c.args.tree.now c.remove.new.self.items c.take_version.new.versions.items
kept c =
    let stays : ActionId → Bool = λ x. not (eqb x.0 c.args.a.0) in
    kept_less (record { order = c.self.invariant; lawful = rw (← c.self.view_is) at c.requires.lawful }) _ _ stays stays
    c.remove.ensures.items c.take_version.ensures.versions

pub invariant_of-self : goal.invariant_of-self
invariant_of-self c = (kept c).order

pub returns-clause-lawful : goal.returns-clause-lawful
returns-clause-lawful c = (kept c).lawful

pub returns-clause-reader_room : goal.returns-clause-reader_room
returns-clause-reader_room c = grind (arith, common_steps, length_filter_le)
