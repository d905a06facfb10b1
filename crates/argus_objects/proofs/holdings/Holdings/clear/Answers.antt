-- The action's place is empty, and who had nothing in its list has nothing still.
use Rattle.std.proofs.Common.{[], sym, ◌∙◌, ap, arith, refl}
use Rattle.argus_objects.{specs.Holdings.{place_at, placed_objects}, proofs.Places.{cleared_objects, found_read}}
use Rattle.argus_objects.proofs.Places.{has_place, listed, none_set}
use Rattle.argus_objects.proofs.holdings.Holdings.clear.Goals as goal

pub returns-in_default : goal.returns-in_default
returns-in_default c = none_set c.args.self.now c.args.a [] (sym c.index_of.ensures ∙ c.in_default.is) refl

pub index_mut-requires : goal.index_mut-requires
index_mut-requires c =
    omega (arith, listed c.args.self.now c.args.a c.in-Some.index (sym c.index_of.ensures ∙ c.in-Some.is))

pub put-requires : goal.put-requires
put-requires c =
    let is = listed c.args.self.now c.args.a c.in-Some.index (sym c.index_of.ensures ∙ c.in-Some.is) in
    let place = has_place c.args.self.now c.args.a c.in-Some.index is in
    record { from = place.from; to = place.to }

pub returns : goal.returns
returns c = λ x.
    let r = found_read c.args.self.now c.args.a _ _ _ c.index_of.ensures c.in-Some.is c.index_mut.ensures.value in
    ap (λ ls. (placed_objects ls x.0 (place_at c.put.new.self.first c.put.new.self.places.items x.0)).objects)
    c.put.ensures.lists
    ∙ (cleared_objects c.args.self.now c.args.a c.in-Some.index
    (record { holder = c.index_mut.result.now.holder; objects = c.empty.new.list })
    (λ z. place_at c.put.new.self.first c.put.new.self.places.items z.0) r.is r.own c.put.ensures.places x)
