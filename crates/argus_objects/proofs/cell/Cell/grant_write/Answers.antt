-- A write holder below all holders keeps the cell in order and lawful.
use Rattle.std.proofs.{Common.{refl, arith}, lemmas.Grind.common_steps}
use Rattle.argus_contents.specs.Content.{plain_option}
use Rattle.argus_objects.proofs.{Lawful.{Kept, kept_write}, Changes.writers_up_to}
use Rattle.argus_objects.proofs.cell.Cell.grant_write.Goals as goal

pub put_version-requires-clause-newest : goal.put_version-requires-clause-newest
put_version-requires-clause-newest c = grind (arith, common_steps, writers_up_to)

kept : (c : goal.After-put_version) → Kept c.args.tree.now c.self.inside.readers.items c.put_version.new.versions.items
kept c =
    kept_write (record { order = c.self.invariant; lawful = rw (← c.self.view_is) at c.requires.lawful }) _ _ c.args.a
    (plain_option c.args.new_content) (rw (← c.self.view_is) at c.requires.granted) refl c.put_version.ensures.versions

pub invariant_of-self : goal.invariant_of-self
invariant_of-self c = (kept c).order

pub returns-clause-lawful : goal.returns-clause-lawful
returns-clause-lawful c = (kept c).lawful
