-- There is no place.
use Rattle.std.proofs.Common.{◌∙◌, ap}
use Rattle.argus_objects.{specs.Holdings.{place_at, placed_objects}, proofs.Places.place_nowhere}
use Rattle.argus_objects.proofs.holdings.Holdings.starting_at.Goals as goal

pub returns : goal.returns
unfolding placed_objects
returns c = λ x. ap (λ p. (placed_objects c.new-2.result.items x.0 p).objects)
    (ap (λ ps. place_at c.args.first ps x.0) c.new.ensures.items ∙ place_nowhere c.args.first x.0)
