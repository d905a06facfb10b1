-- The lines of the objects from this number on are left to come.
use Rattle.std.proofs.Common.{drop, false, length, string_bytes, ◌-◌, ◌≡◌}
use Rattle.argus_journal.specs.Journal.{opening_of}
use Rattle.argus_listings.proofs.Added.{Left}
use Rattle.argus_listings.specs.Listing.{each_from, opened_line}
use Rattle.argus_streams.specs.FailStop.{has_failed, inner_of}
use Rattle.argus_listings.proofs.journal_listing.write_opened.Given as goal

abbrev pub invariant-loop-shape : goal.invariant-loop-shape
invariant-loop-shape g l = record {
  fine : has_failed l.writer ≡ false;
  left : Left (g.W.Write.contents (inner_of l.fn.writer)) (string_bytes l.fn.text)
      (g.W.Write.contents (inner_of l.writer)) (string_bytes l.text)
      (each_from opened_line 0 (opening_of l.journal).objects)
      (each_from opened_line l.o (drop l.o (opening_of l.journal).objects));
}

abbrev pub decreases-loop-shape : goal.decreases-loop-shape
decreases-loop-shape g l = length (opening_of l.journal).objects - l.o
