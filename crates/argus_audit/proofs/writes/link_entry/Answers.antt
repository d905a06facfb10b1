-- The object's head is the place's link now, and the place is its head.
use Rattle.std.proofs.{Common.{reverse, sym, arith}, lemmas.Bool.Decides.nat_tests}
use Rattle.argus_journal.specs.Journal.{entries_of}
use Rattle.argus_audit.proofs.Linked.{heads_passed, heads_set, heads_short, links_set}
use Rattle.argus_audit.proofs.writes.link_entry.Goals as goal

pub returns-in_default-clause-heads : goal.returns-in_default-clause-heads
returns-in_default-clause-heads c =
    heads_passed (reverse (entries_of c.args.journal.now)) c.args.place c.object_at.result c.object_at.ensures
    c.args.first.now c.in_default.is c.requires.heads

pub returns-in-Some-head_of-clause-heads : goal.returns-in-Some-head_of-clause-heads
returns-in-Some-head_of-clause-heads c = grind (arith, nat_tests, heads_set)

pub returns-in-Some-head_of-clause-links : goal.returns-in-Some-head_of-clause-links
returns-in-Some-head_of-clause-links c = grind (arith, nat_tests, links_set)

pub returns-in_default-head_of-clause-heads : goal.returns-in_default-head_of-clause-heads
returns-in_default-head_of-clause-heads c =
    heads_short (reverse (entries_of c.args.journal.now)) c.args.place c.object_at.result c.object_at.ensures
    c.args.first.now c.in-Some.o c.in-Some.is (sym c.in_default-head_of.ensures) c.requires.heads
