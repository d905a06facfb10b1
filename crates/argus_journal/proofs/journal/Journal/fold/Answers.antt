-- The fold of a legal journal is an opening as it has to be.
use Rattle.std.proofs.{Common.{arith, rules}, lemmas.{Bool.Decides.nat_tests, List.length-map}}
use Rattle.argus_journal.proofs.Folded.{fold_numbers, fold_sound}
use Rattle.argus_journal.proofs.journal.Journal.fold.Goals as goal

pub invariant_of-self : goal.invariant_of-self
invariant_of-self c = grind (arith, nat_tests, length-map, fold_numbers, fold_sound)

pub returns-clause-entries : goal.returns-clause-entries
returns-clause-entries c = search rules

pub returns-clause-room : goal.returns-clause-room
returns-clause-room c = search rules
