-- The lines of the objects from this number on are left to come.
use Rattle.std.proofs.Common.{drop, false, string_bytes, ◌≡◌}
use Rattle.argus_listings.proofs.Added.{Left}
use Rattle.argus_listings.specs.Listing.{each_from, names_within, object_text, objects_text}
use Rattle.argus_streams.specs.FailStop.{has_failed, inner_of}
use Rattle.argus_listings.proofs.object_listing.write_objects.Given as goal

abbrev pub invariant-loop-name : goal.invariant-loop-name
invariant-loop-name g l = record {
  fine : has_failed l.writer ≡ false;
  number : l.o ≡ l.name-index;
  left : Left (g.W.Write.contents (inner_of l.fn.writer)) (string_bytes l.fn.text)
      (g.W.Write.contents (inner_of l.writer)) (string_bytes l.text) (objects_text l.listing l.names l.guardian)
      (each_from (object_text l.listing l.guardian) l.o (drop l.name-index (names_within l.guardian l.names)));
}
