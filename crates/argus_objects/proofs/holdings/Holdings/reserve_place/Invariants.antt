-- Each action has what it had in its place.
use Rattle.std.proofs.Common.{◌≡◌, ℕ, ◌+◌, ◌-◌}
use Rattle.argus_objects.specs.Holdings.{place_at}
use Rattle.argus_objects.proofs.holdings.Holdings.reserve_place.Given as goal

abbrev pub invariant-loop-self : goal.invariant-loop-self
invariant-loop-self l = record {
  first : l.self.first ≡ l.initial.self.first;
  lists : l.self.lists ≡ l.initial.self.lists;
  places : (x : ℕ) → place_at l.self.first l.self.places.items x
      ≡ place_at l.initial.self.first l.initial.self.places.items x;
}

abbrev pub decreases-loop-self : goal.decreases-loop-self
decreases-loop-self l = l.place + 1 - l.self.places.len
