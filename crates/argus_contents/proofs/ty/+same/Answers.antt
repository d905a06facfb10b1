-- Lists of other lengths don't say the same, and the names of structs and oneofs decide.
use Rattle.std.proofs.{lemmas.Grind.common_steps, Common.{sym, arith}}
use Rattle.argus_contents.proofs.{Levels.{plain_ty-Choice, plain_ty-Fields}, Lists.other_names}
use Rattle.argus_contents.proofs.ty.+same.Goals as goal

pub are_same-returns-then-a-b : goal.are_same-returns-then-a-b
are_same-returns-then-a-b t c = sym (other_names c.args.a.now c.args.b.now c.if-a-b.true)

pub is_same-returns-in-Fields-Fields : goal.is_same-returns-in-Fields-Fields
is_same-returns-in-Fields-Fields t c =
    let i = c.in-Fields-Fields in
    rw (
      i.is-0,
      i.is-1,
      plain_ty-Fields i.a,
      plain_ty-Fields i.b,
      ← c.deref-in-Fields-Fields.ensures.value,
      ← c.deref-in-Fields-Fields-2.ensures.value,
    ) c.are_same.ensures

pub is_same-returns-in-Choice-Choice : goal.is_same-returns-in-Choice-Choice
is_same-returns-in-Choice-Choice t c =
    let i = c.in-Choice-Choice in
    rw (
      i.is-0,
      i.is-1,
      plain_ty-Choice i.a,
      plain_ty-Choice i.b,
      ← c.deref-in-Choice-Choice.ensures.value,
      ← c.deref-in-Choice-Choice-2.ensures.value,
    ) c.are_same-in-Choice-Choice.ensures

pub are_same-loop-i-preserved : goal.are_same-loop-i-preserved
are_same-loop-i-preserved t c = grind (arith, common_steps)
