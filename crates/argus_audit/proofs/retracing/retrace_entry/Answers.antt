-- The call that was found makes the tree that of one more entry.
use Rattle.std.proofs.{Common.{sym, arith}, lemmas.{Result.on_ok_weaker, Bool.Decides.nat_tests}}
use Rattle.argus_audit.proofs.{Places.{first_legal, no_more, one_more}, Retraced.entry_retraced}
use Rattle.argus_entries.specs.Entry.{plain_entry}
use Rattle.argus_journal.specs.Journal.{entries_of, opening_of}
use Rattle.argus_audit.proofs.retracing.retrace_entry.Goals as goal

pub returns-in-Some : goal.returns-in-Some
returns-in-Some c =
    let s = opening_of c.args.journal.now in
    let j = entries_of c.args.journal.now in
    let at = c.args.place in
    let e = plain_entry c.in-Some.entry.now in
    let more = one_more j at e (sym c.in-Some.ensures) in
    grind (arith, nat_tests, on_ok_weaker, entry_retraced, first_legal)

pub returns-in-None : goal.returns-in-None
returns-in-None c = grind (arith, nat_tests, no_more)
