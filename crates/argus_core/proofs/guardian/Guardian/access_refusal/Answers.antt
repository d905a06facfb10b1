-- A query or a change is refused as the journal refuses it.
use Rattle.std.proofs.Common.{ap, sym, ◌∙◌}
use Rattle.argus_contents.specs.Change.{plain_change}
use Rattle.argus_entries.specs.{Call.{alter, ask, plain_call}, declared.call.Call.Call}
use Rattle.argus_core.{specs.Objects.refusal_of_access, proofs.{Alters.alters, Asks.asks}}
use Rattle.argus_journal.specs.JournalView.{JournalView}
use Rattle.argus_core.proofs.guardian.Guardian.access_refusal.Goals as goal

pub returns-in-Ask : goal.returns-in-Ask
returns-in-Ask c =
    let call = ask c.in-Ask.a.0 c.in-Ask.o.0 c.in-Ask.query in
    (rw (c.as_slice-objects.ensures.value) at c.ask_refusal.ensures)
    ∙ (asks c.self.inside.state c.self.invariant c.in-Ask.a c.in-Ask.o c.in-Ask.query).refuses
    ∙ ap (λ (s : JournalView). refusal_of_access s call) c.self.view_is
    ∙ ap (λ (x : Call). refusal_of_access c.args.self.now (plain_call x)) (sym c.in-Ask.is)

pub returns-in-Alter : goal.returns-in-Alter
returns-in-Alter c =
    let call = alter c.in-Alter.a.0 c.in-Alter.o.0 (plain_change c.in-Alter.change) in
    (rw (c.as_slice-objects.ensures.value) at c.alter_refusal.ensures)
    ∙ (alters c.self.inside.state c.self.invariant c.in-Alter.a c.in-Alter.o
    (plain_change c.in-Alter.change)).refuses
    ∙ ap (λ (s : JournalView). refusal_of_access s call) c.self.view_is
    ∙ ap (λ (x : Call). refusal_of_access c.args.self.now (plain_call x)) (sym c.in-Alter.is)
