-- Entries that are passed by leave the content.
use Rattle.std.proofs.{Common.{arith, reverse, subst, sym, ◌∙◌}, lemmas.Bool.Decides.nat_tests}
use Rattle.argus_audit.{specs.Writes.AreWrites, proofs.Visits.skipped_to}
use Rattle.argus_journal.specs.Journal.{entries_of, opening_of}
use Rattle.argus_audit.proofs.visiting.replay.Goals as goal

pub first-place-requires : goal.first-place-requires
first-place-requires c =
    subst (λ writes. AreWrites writes (reverse (entries_of c.args.journal.now))) (sym c.writes.ensures)
    c.requires.audit.writes

pub loop-place-init : goal.loop-place-init
loop-place-init c =
    let journal = c.args.journal.now in
    c.in_ok-content.ensures.content
    ∙ sym (skipped_to (opening_of journal) (entries_of journal) c.args.reader c.args.o.0 0 c.first-place.result
    (omega arith) c.first-place.ensures)

pub loop-place-preserved : goal.loop-place-preserved
loop-place-preserved c = grind (arith, nat_tests, skipped_to)
