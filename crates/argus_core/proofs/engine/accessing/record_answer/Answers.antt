-- What a granted query is answered, at what the action sees, is the reply that the journal gives.
use Rattle.std.proofs.{Common.arith, lemmas.List.with_items_is}
use Rattle.argus_contents.specs.SmallAnswer.{plain_small}
use Rattle.argus_core.proofs.Asks.{ask_free, ask_made, ask_told}
use Rattle.argus_core.proofs.engine.accessing.record_answer.Goals as goal

pub grant_read-requires-clause-free : goal.grant_read-requires-clause-free
grant_read-requires-clause-free c =
    rw (c.as_mut_slice.ensures.value)
    (ask_free c.args.state.now c.requires.kept c.args.a c.args.o c.args.query c.requires.free)

pub push-requires-clause-answered : goal.push-requires-clause-answered
push-requires-clause-answered c =
    rw (c.answer.ensures)
    (ask_told c.args.state.now c.requires.kept c.args.a c.args.o c.args.query c.requires.free
    (plain_small c.args.answer) c.requires.right)

pub returns-clause-kept : goal.returns-clause-kept
returns-clause-kept c =
    let p = c.args.state.now in
    let new = c.grant_read.new.objects in
    rw (with_items_is p.objects new (omega arith), c.push.ensures.entries, c.push.ensures.opening, c.answer.ensures)
    (ask_made p c.requires.kept c.args.a c.args.o c.args.query c.requires.free (plain_small c.args.answer)
    c.requires.right new c.grant_read.new.holdings (rw (c.as_mut_slice.ensures.value) at c.grant_read.ensures))
