-- The list under the action's number is the action's, and no other's.
use Rattle.std.proofs.{Common.{sym, ◌∙◌, ap, arith}, lemmas.Grind.common_steps}
use Rattle.argus_objects.{specs.ObjectList.NotedObjects, proofs.Places.{found_read, listed, none_of_none, none_set}}
use Rattle.argus_objects.proofs.Places.{objects_set, unlisted}
use Rattle.argus_objects.proofs.holdings.Holdings.note_all.Goals as goal

pub index_mut-requires : goal.index_mut-requires
index_mut-requires c =
    omega (arith, listed c.args.self.now c.args.a c.in-Some.index (sym c.index_of.ensures ∙ c.in-Some.is))

pub note_all-requires : goal.note_all-requires
note_all-requires c = omega (
  arith,
  c.requires,
  ap (λ (l : NotedObjects). l.room)
      (found_read c.args.self.now c.args.a _ _ _ c.index_of.ensures c.in-Some.is c.index_mut.ensures.value).noted,
)

pub returns-in-Some : goal.returns-in-Some
returns-in-Some c = grind (arith, common_steps, found_read, objects_set)

pub returns-in_default : goal.returns-in_default
returns-in_default c = grind (arith, common_steps, unlisted, none_set, none_of_none)
