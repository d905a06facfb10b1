-- The readers in the object's cell are those of the journal.
use Rattle.std.proofs.Common.{Some, ap, map, ◌∙◌, ◌≡◌}
use Rattle.argus_actions.specs.declared.action_id.ActionId.{ActionId}
use Rattle.argus_core.proofs.Told.{cell_there, there}
use Rattle.argus_journal.specs.{LegalJournal.{entries_in, opening_in}, JournalFacts.readers_of}
use Rattle.argus_core.proofs.guardian.Guardian.holders.Goals as goal

pub returns-in-Some : goal.returns-in-Some
returns-in-Some c =
    let g = c.self.inside.state in
    let x = c.in-Some.object.now in
    let found = rw (c.deref.ensures.value) at c.in-Some.ensures.lookup in
    let told : map (λ (a : ActionId). a.0) c.readers.result.now
    ≡ readers_of (opening_in g.journal) (entries_in g.journal) c.args.o.0 =
    ap (λ ids. map (λ (a : ActionId). a.0) ids) c.readers.ensures
    ∙ c.a_cell_refines_the_history.ensures.readers (opening_in g.journal) (entries_in g.journal) g.tree c.args.o.0
    x.cell (cell_there g c.self.invariant c.args.o.0 x _ found.0 found.1) in
    rw (← c.self.view_is) (ap Some told ∙ there g c.self.invariant c.args.o.0 x _ found.0 found.1 _)
