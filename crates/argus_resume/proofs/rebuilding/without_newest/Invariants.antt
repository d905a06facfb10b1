-- So many of the oldest entries were made again.
use Rattle.std.proofs.Common.{drop, length, ◌-◌, ◌≡◌, ◌≤◌}
use Rattle.argus_journal.specs.Journal.{entries_of, opening_of}
use Rattle.argus_resume.proofs.rebuilding.without_newest.Given as goal

abbrev pub invariant-loop-at : goal.invariant-loop-at
invariant-loop-at l = record {
  from : (opening_of l.journal).first_entry ≤ l.at;
  opening : l.again.opening ≡ opening_of l.journal;
  entries : l.again.entries
      ≡ drop (length (entries_of l.journal) - (l.at - (opening_of l.journal).first_entry)) (entries_of l.journal);
}
