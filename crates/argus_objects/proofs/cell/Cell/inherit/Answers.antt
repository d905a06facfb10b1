-- A cell whose locks and versions go to the parent stays in order and lawful.
use Rattle.argus_objects.proofs.Lawful.{Kept, kept_inherit}
use Rattle.argus_objects.proofs.cell.Cell.inherit.Goals as goal

kept : (c : goal.After-inherit_version) → Kept c.args.tree.now c.inherit.new.self.items
    c.inherit_version.new.versions.items
kept c =
    kept_inherit (record {
      order = c.self.invariant;
      lawful = rw
          (← c.self.view_is) at c.requires.lawful;
    }) _ _ c.args.s c.args.parent
    (record { linked = c.requires.parent; above = c.parent_is_ancestor.ensures })
    c.inherit.ensures.items c.inherit_version.ensures.versions

pub invariant_of-self : goal.invariant_of-self
invariant_of-self c = (kept c).order

pub returns-clause-lawful : goal.returns-clause-lawful
returns-clause-lawful c = (kept c).lawful
