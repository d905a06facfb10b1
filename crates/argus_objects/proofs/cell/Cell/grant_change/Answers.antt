-- A write holder below all holders keeps the cell in order and lawful, and changes what it sees.
use Rattle.std.proofs.{Common.{refl, arith}, lemmas.Grind.common_steps}
use Rattle.argus_contents.{specs.Change.plain_change, proofs.Kept.outcome_keeps}
use Rattle.argus_objects.proofs.{Changes.{on_ok, seen_by_writer, writers_up_to}, Lawful.{Kept, kept_change}}
use Rattle.argus_objects.proofs.cell.Cell.grant_change.Goals as goal

pub change_version-requires-clause-newest : goal.change_version-requires-clause-newest
change_version-requires-clause-newest c = grind (arith, common_steps, writers_up_to)

pub change_version-requires-clause-limits : goal.change_version-requires-clause-limits
change_version-requires-clause-limits c = grind (arith, common_steps, seen_by_writer)

kept : (c : goal.After-change_version) → Kept c.args.tree.now c.self.inside.readers.items
    c.change_version.new.versions.items
kept c =
    kept_change (record { order = c.self.invariant; lawful = rw (← c.self.view_is) at c.requires.lawful }) _ _
    c.change_version.result c.args.a _ (rw (← c.self.view_is) at c.requires.granted) refl
    c.change_version.ensures.changed.versions c.change_version.ensures.changed.err

pub invariant_of-self : goal.invariant_of-self
invariant_of-self c = (kept c).order

pub returns-clause-lawful : goal.returns-clause-lawful
returns-clause-lawful c = (kept c).lawful

pub returns-clause-versions : goal.returns-clause-versions
returns-clause-versions c = grind (arith, common_steps, seen_by_writer)

pub returns-clause-answer : goal.returns-clause-answer
returns-clause-answer c = grind (arith, common_steps, seen_by_writer)

pub returns-clause-kept : goal.returns-clause-kept
returns-clause-kept c = λ within.
    on_ok c.change_version.result _ (outcome_keeps (plain_change c.args.change.now) _ within c.requires.limits)
