-- The lines of the entries from this number on are left to come.
use Rattle.std.proofs.Common.{drop, false, reverse, string_bytes, ◌-◌, ◌≡◌, ◌≤◌}
use Rattle.argus_journal.specs.Journal.{entries_of, opening_of}
use Rattle.argus_listings.proofs.Added.{Left}
use Rattle.argus_listings.specs.Listing.{each_from, entries_text}
use Rattle.argus_entries.specs.EntrySpelling.{entry_line}
use Rattle.argus_streams.specs.FailStop.{has_failed, inner_of}
use Rattle.argus_listings.proofs.journal_listing.write_entries.Given as goal

abbrev pub invariant-loop-at : goal.invariant-loop-at
invariant-loop-at g l = record {
  fine : has_failed l.writer ≡ false;
  from : (opening_of l.journal).first_entry ≤ l.at;
  left : Left (g.W.Write.contents (inner_of l.fn.writer)) (string_bytes l.fn.text)
      (g.W.Write.contents (inner_of l.writer)) (string_bytes l.text)
      (entries_text (opening_of l.journal) (entries_of l.journal)) (each_from entry_line l.at
      (drop (l.at - (opening_of l.journal).first_entry) (reverse (entries_of l.journal))));
}
