-- The parent's place has the number of the list, which is the parent's then.
use Rattle.std.proofs.{Common.{◌≡◌, ℕ, [], Option, set, sym, ◌∙◌, ap, arith, refl}, lemmas.Grind.common_steps}
use Rattle.argus_actions.specs.declared.action_id.ActionId.{ActionId}
use Rattle.argus_objects.specs.{Holdings.{noted_by, place_at, placed_objects}, ObjectList.passed}
use Rattle.argus_objects.{specs.declared.held_list.HeldList.HeldList, proofs.Distinct.passed_to_none}
use Rattle.argus_objects.proofs.Places.{nothing_handed, objects_handed, unlisted, found_read, handed_on, handed_whole}
use Rattle.argus_objects.proofs.Places.{listed, none_handed, none_of_none}
use Rattle.argus_objects.proofs.holdings.Holdings.hand_up.Goals as goal

pub returns-then-is_empty-clause-passed : goal.returns-then-is_empty-clause-passed
returns-then-is_empty-clause-passed c = grind (arith, common_steps, none_of_none, nothing_handed)

pub returns-in_default-clause-passed : goal.returns-in_default-clause-passed
returns-in_default-clause-passed c = grind (arith, common_steps, none_handed, unlisted)

pub returns-in_default-clause-whole : goal.returns-in_default-clause-whole
returns-in_default-clause-whole c = grind (arith, common_steps, unlisted)

pub index_mut-requires : goal.index_mut-requires
index_mut-requires c =
    omega (arith, listed c.args.self.now c.args.s c.in-Some.index (sym c.index_of.ensures ∙ c.in-Some.is))

pub returns-clause-passed : goal.returns-clause-passed
returns-clause-passed c =
    let h = c.args.self.now in
    let r = found_read h c.args.s _ _ _ c.index_of.ensures c.in-Some.is c.index_mut.ensures.value in
    let y : HeldList = record { holder = c.args.parent; objects = c.index_mut.result.now.objects } in
    let place : ActionId → Option ℕ = λ z. place_at c.put.new.self.first c.put.new.self.places.items z.0 in
    let handed = handed_on h c.args.s c.args.parent c.in-Some.index y place r.is refl (sym r.noted) c.requires.other
    c.put.ensures.places in
    let all : passed (noted_by h c.args.s).objects [] ≡ (noted_by h c.args.s).objects =
    rw (← c.of.ensures.list) (passed_to_none c.of.result.now c.of.ensures.once) in
    λ x. ap (λ ls. (placed_objects ls x.0 (place_at c.put.new.self.first c.put.new.self.places.items x.0)).objects)
    c.put.ensures.lists
    ∙ (objects_handed h c.args.s c.args.parent
    (λ z. placed_objects (set h.lists.items c.in-Some.index y) z.0 (place z)) handed c.requires.none all x)

pub returns-clause-whole : goal.returns-clause-whole
returns-clause-whole c =
    let h = c.args.self.now in
    let all : passed (noted_by h c.args.s).objects [] ≡ (noted_by h c.args.s).objects =
    rw (← c.of.ensures.list) (passed_to_none c.of.result.now c.of.ensures.once) in
    handed_whole h c.args.s c.args.parent _ c.requires.other c.requires.none all (returns-clause-passed c c.args.parent)
