-- What a granted query is answered, at what the action sees, is the reply that the journal gives.
use Rattle.std.proofs.{Common.{arith, ◌∙◌}, lemmas.List.with_items_is}
use Rattle.argus_core.proofs.Asks.{ask_free, ask_made, ask_ready, ask_told}
use Rattle.argus_core.proofs.engine.accessing.answer_with_memory.Goals as goal

pub query_answer-requires : goal.query_answer-requires
query_answer-requires c =
    rw (c.as_slice-seen.ensures.value)
    (ask_ready c.args.state.now c.requires.kept c.args.a c.args.o c.args.query c.requires.free)

pub grant_read-requires-clause-free : goal.grant_read-requires-clause-free
grant_read-requires-clause-free c =
    rw (c.as_mut_slice-objects.ensures.value)
    (ask_free c.args.state.now c.requires.kept c.args.a c.args.o c.args.query c.requires.free)

pub push-requires-clause-answered : goal.push-requires-clause-answered
push-requires-clause-answered c =
    c.in_ok-reply.ensures.second
    ∙ ask_told c.args.state.now c.requires.kept c.args.a c.args.o c.args.query c.requires.free _
    (rw (c.as_slice-seen.ensures.value) at c.in_ok-answer.ensures)

pub returns-clause-kept : goal.returns-clause-kept
returns-clause-kept c =
    let p = c.args.state.now in
    let new = c.grant_read.new.objects in
    rw (with_items_is p.objects new (omega arith), c.push.ensures.entries, c.push.ensures.opening)
    (rw (c.in_ok-reply.ensures.second)
    (ask_made p c.requires.kept c.args.a c.args.o c.args.query c.requires.free _
    (rw (c.as_slice-seen.ensures.value) at c.in_ok-answer.ensures) new c.grant_read.new.holdings
    (rw (c.as_mut_slice-objects.ensures.value) at c.grant_read.ensures)))
