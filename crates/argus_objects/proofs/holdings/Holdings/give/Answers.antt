-- No other action notices, and this one had nothing.
use Rattle.std.proofs.Common.{◌∙◌, ap, arith, refl}
use Rattle.argus_objects.specs.{Holdings.{place_at, placed_objects}, declared.held_list.HeldList.HeldList}
use Rattle.argus_objects.proofs.Places.{given_objects, given_rooms}
use Rattle.argus_objects.proofs.holdings.Holdings.give.Goals as goal

pub returns-clause-same : goal.returns-clause-same
returns-clause-same c =
    let h = c.args.self.now in
    let y : HeldList = record { holder = c.args.a; objects = c.clear.new.self } in
    λ x. ap (λ ls. (placed_objects ls x.0 (place_at c.put.new.self.first c.put.new.self.places.items x.0)).objects)
    c.put.ensures.lists
    ∙ (given_objects h c.args.a c.args.index y
    (λ z. place_at c.put.new.self.first c.put.new.self.places.items z.0)
    c.requires.there refl c.requires.free c.put.ensures.places c.requires.none c.clear.ensures x)

pub returns-clause-rooms : goal.returns-clause-rooms
returns-clause-rooms c =
    let h = c.args.self.now in
    let y : HeldList = record { holder = c.args.a; objects = c.clear.new.self } in
    λ x. omega (
      arith,
      ap (λ ls. (placed_objects ls x.0 (place_at c.put.new.self.first c.put.new.self.places.items x.0)).room)
          c.put.ensures.lists,
      given_rooms h c.args.a c.args.index y (λ z. place_at c.put.new.self.first c.put.new.self.places.items z.0)
          c.requires.there refl c.requires.free c.put.ensures.places c.requires.none x,
    )
