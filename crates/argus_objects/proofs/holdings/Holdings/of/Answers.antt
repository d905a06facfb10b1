-- The list under the action's number is the action's; an empty list has nothing twice.
use Rattle.std.{proofs.{Common.{sym, ◌∙◌, ap, arith, rules}, lemmas.Grind.common_steps}, specs.List.IsDistinct}
use Rattle.argus_objects.{specs.ObjectList.NotedObjects, proofs.Places.{found_read, listed, unlisted}}
use Rattle.argus_objects.proofs.holdings.Holdings.of.Goals as goal

pub index-requires : goal.index-requires
index-requires c =
    omega (arith, listed c.args.self.now c.args.a c.in-Some.index (sym c.index_of.ensures ∙ c.in-Some.is))

pub returns-in-Some-clause-list : goal.returns-in-Some-clause-list
returns-in-Some-clause-list c =
    c.as_slice.ensures.list ∙ sym (ap (λ (l : NotedObjects). l.objects)
    (found_read c.args.self.now c.args.a _ _ _ c.index_of.ensures c.in-Some.is c.index.ensures).noted)

pub returns-in-None-clause-list : goal.returns-in-None-clause-list
returns-in-None-clause-list c = grind (arith, common_steps, unlisted)

pub returns-in-None-clause-once : goal.returns-in-None-clause-once
unfolding IsDistinct
returns-in-None-clause-once c = tt

pub returns-in-Some-clause-once : goal.returns-in-Some-clause-once
returns-in-Some-clause-once c = search rules
