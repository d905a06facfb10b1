-- What is taken is the action's list, and an empty one is left.
use Rattle.std.proofs.{Common.{sym, ◌∙◌, arith}, lemmas.Grind.common_steps}
use Rattle.argus_objects.proofs.Places.{found_read, listed, noted_none, put_in, unlisted}
use Rattle.argus_objects.proofs.holdings.Holdings.take_list.Goals as goal

pub index_mut-requires : goal.index_mut-requires
index_mut-requires c =
    omega (arith, listed c.args.self.now c.args.a c.in-Some.index (sym c.index_of.ensures ∙ c.in-Some.is))

pub returns-in-Some-clause-list : goal.returns-in-Some-clause-list
returns-in-Some-clause-list c =
    c.replace.ensures.value ∙ sym (found_read c.args.self.now c.args.a _ _ _ c.index_of.ensures c.in-Some.is
    c.index_mut.ensures.value).noted

pub returns-in-Some-clause-left : goal.returns-in-Some-clause-left
returns-in-Some-clause-left c = grind (arith, common_steps, put_in, found_read)

pub returns-in-None-clause-list : goal.returns-in-None-clause-list
returns-in-None-clause-list c =
    c.new-empty.ensures ∙ sym (unlisted c.args.self.now c.args.a (sym c.index_of.ensures ∙ c.in-None.is))

pub returns-in-None-clause-left : goal.returns-in-None-clause-left
returns-in-None-clause-left c = grind (arith, common_steps, unlisted, noted_none)
