-- What the tree says of the action that is reached is whose the work is.
use Rattle.std.proofs.{Common.{Some, ap, sym, ◌∙◌, arith}, lemmas.Bool.Decides.nat_tests}
use Rattle.argus_journal.specs.Journal.{entries_of, opening_of}
use Rattle.argus_audit.proofs.Owners.{goes_up, is_folded, is_gone, is_none_there, lives, tops}
use Rattle.argus_audit.proofs.owning.owner_of.Goals as goal

pub loop-parent-smaller : goal.loop-parent-smaller
loop-parent-smaller c =
    let journal = c.args.journal.now in
    (goes_up c.args.tree.now (opening_of journal) (entries_of journal) c.requires.legal c.requires.tree
    c.loop-parent.at.0 c.in-Some.parent (sym c.in-Some-Committed.ensures ∙ ap Some c.in-Some-Committed.field-0-is) (sym c.in-Some.ensures)).1

pub loop-parent-preserved : goal.loop-parent-preserved
loop-parent-preserved c = grind (arith, nat_tests, goes_up)

pub returns-in-None-parent : goal.returns-in-None-parent
returns-in-None-parent c = grind (arith, nat_tests, tops)

pub returns-in-Some-Live : goal.returns-in-Some-Live
returns-in-Some-Live c = grind (arith, nat_tests, lives)

pub returns-in-Some-Aborted : goal.returns-in-Some-Aborted
returns-in-Some-Aborted c = grind (arith, nat_tests, is_gone)

pub returns-in-Some-Folded : goal.returns-in-Some-Folded
returns-in-Some-Folded c = grind (arith, nat_tests, is_folded)

pub returns-in-None : goal.returns-in-None
returns-in-None c = grind (arith, nat_tests, is_none_there)
