-- The versions in the object's cell are those of the journal.
use Rattle.std.proofs.Common.{Some, ap, map, sym, ◌∙◌, ◌≡◌}
use Rattle.argus_core.{proofs.Told.{cell_there, in_order, there}, specs.Objects.version_pair}
use Rattle.argus_journal.specs.{LegalJournal.{entries_in, opening_in}, JournalFacts.versions_of}
use Rattle.argus_core.proofs.guardian.Guardian.versions.Goals as goal
use Rattle.argus_refinement.specs.CellRefinement as laws

pub returns-in-Some : goal.returns-in-Some
returns-in-Some c =
    let g = c.self.inside.state in
    let x = c.in-Some.object.now in
    let found = rw (c.deref.ensures.value) at c.in-Some.ensures.lookup in
    let told : map version_pair c.versions.result.now
    ≡ versions_of (opening_in g.journal) (entries_in g.journal) c.args.o.0 =
    sym (in_order c.versions.result.now) ∙ ap laws.numbered_versions c.versions.ensures
    ∙ c.a_cell_refines_the_history.ensures.versions (opening_in g.journal) (entries_in g.journal) g.tree c.args.o.0
    x.cell c.self.invariant.legal (cell_there g c.self.invariant c.args.o.0 x _ found.0 found.1) in
    rw (← c.self.view_is) (ap Some told ∙ there g c.self.invariant c.args.o.0 x _ found.0 found.1 _)
