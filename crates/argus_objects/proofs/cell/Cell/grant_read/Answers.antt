-- A reader whose ancestors are all holders of versions keeps the cell in order and lawful.
use Rattle.std.proofs.Common.{refl}
use Rattle.argus_objects.proofs.Lawful.{Kept, kept_read}
use Rattle.argus_objects.proofs.cell.Cell.grant_read.Goals as goal

kept : (c : goal.After-add) → Kept c.args.tree.now c.add.new.self.items c.self.inside.versions.items
kept c =
    kept_read (record { order = c.self.invariant; lawful = rw (← c.self.view_is) at c.requires.lawful }) _ _
    c.args.a (rw (← c.self.view_is) at c.requires.granted) c.add.ensures.items refl

pub invariant_of-self : goal.invariant_of-self
invariant_of-self c = (kept c).order

pub returns-clause-lawful : goal.returns-clause-lawful
returns-clause-lawful c = (kept c).lawful
