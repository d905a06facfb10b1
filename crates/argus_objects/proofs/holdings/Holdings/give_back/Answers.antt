-- A list of no objects is what the action has after it, too.
use Rattle.std.proofs.{Common.{sym, ◌∙◌, arith}, lemmas.Grind.common_steps}
use Rattle.argus_objects.proofs.Places.{found_read, listed, objects_kept, objects_none}
use Rattle.argus_objects.proofs.holdings.Holdings.give_back.Goals as goal

pub index_mut-requires : goal.index_mut-requires
index_mut-requires c =
    omega (arith, listed c.args.self.now c.args.s c.in-Some.index (sym c.index_of.ensures ∙ c.in-Some.is))

pub returns-in-Some : goal.returns-in-Some
returns-in-Some c = grind (arith, common_steps, found_read, objects_kept, objects_none)
