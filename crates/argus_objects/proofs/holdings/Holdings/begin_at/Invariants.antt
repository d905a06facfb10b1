-- Each action has what it had in its place.
use Rattle.std.proofs.Common.{◌≡◌, ℕ, ◌-◌}
use Rattle.argus_objects.specs.Holdings.{place_at}
use Rattle.argus_objects.proofs.holdings.Holdings.begin_at.Given as goal

abbrev pub invariant-loop-self : goal.invariant-loop-self
invariant-loop-self l = record {
  lists : l.self.lists ≡ l.fn.self.lists;
  places : (x : ℕ) → place_at l.self.first l.self.places.items x ≡ place_at l.fn.self.first l.fn.self.places.items x;
}

abbrev pub decreases-loop-self : goal.decreases-loop-self
decreases-loop-self l = l.self.first - l.a.0
