-- The names so far are those of the first objects.
use Rattle.std.proofs.Common.{◌≡◌}
use Rattle.argus_listings.specs.Listing.{numbered_names}
use Rattle.argus_listings.proofs.naming.numbered_names.Given as goal

abbrev pub invariant-loop-o : goal.invariant-loop-o
invariant-loop-o l = l.names.items ≡ numbered_names l.o
