-- A query is refused as the journal refuses it; else its object is there, and making room changes nothing of that.
use Rattle.std.proofs.Common.{None, subst, sym, ◌∙◌, ◌≡◌}
use Rattle.argus_actions.specs.declared.action_id.ActionId.{ActionId}
use Rattle.argus_contents.specs.{declared.{obj_id.ObjId.ObjId, query.Query.Query}, Fitting.query_suits}
use Rattle.argus_entries.specs.Call.{ask}
use Rattle.argus_journal.specs.JournalView.{JournalView, refusal_to}
use Rattle.argus_core.specs.{Accessing.access_refusal, GuardianState.{StateInvariant, journal_view_of}}
use Rattle.argus_core.{specs.declared.engine.guardian_state.GuardianState.GuardianState, proofs.Accesses.access_free}
use Rattle.argus_core.proofs.{Accesses.access_refused, Asks.{ask_ready, asks}}
use Rattle.argus_objects.specs.Rules.{may_read}
use Rattle.argus_core.proofs.engine.accessing.ask.Goals as goal

-- what isn't refused isn't refused where the journal is the same
still : (p new : GuardianState) (k : StateInvariant p) (a : ActionId) (o : ObjId) (query : Query)
    → access_refusal p.tree p.objects.items a.0 o.0 (λ shape. query_suits shape query) (λ c. may_read p.tree c a) ≡ None
    → journal_view_of new ≡ journal_view_of p → refusal_to (journal_view_of new) (ask a.0 o.0 query) ≡ None
still p new k a o query e same =
    subst (λ (x : JournalView). refusal_to x (ask a.0 o.0 query) ≡ None) (sym same)
    (sym (asks p k a o query).refuses ∙ e)

pub refuse-requires-clause-right : goal.refuse-requires-clause-right
refuse-requires-clause-right c =
    access_refused (asks c.args.state.now c.requires c.args.a c.args.o c.args.query) c.in-Some.why
    (sym (rw (c.as_slice.ensures.value) at c.ask_refusal.ensures) ∙ c.in-Some.is)

pub reserve_granted_read-requires-clause-free : goal.reserve_granted_read-requires-clause-free
reserve_granted_read-requires-clause-free c =
    access_free (asks c.args.state.now c.requires c.args.a c.args.o c.args.query)
    (sym (rw (c.as_slice.ensures.value) at c.ask_refusal.ensures) ∙ c.in-None.is)

pub small_answer-requires : goal.small_answer-requires
small_answer-requires c =
    rw (c.as_slice-2.ensures.value)
    (ask_ready c.reserve_granted_read.new.state c.reserve_granted_read.ensures.kept c.args.a c.args.o c.args.query
    (still c.args.state.now c.reserve_granted_read.new.state c.requires c.args.a c.args.o c.args.query
    (sym (rw (c.as_slice.ensures.value) at c.ask_refusal.ensures) ∙ c.in-None.is)
    c.reserve_granted_read.ensures.journal))

pub record_answer-requires-clause-free : goal.record_answer-requires-clause-free
record_answer-requires-clause-free c =
    still c.args.state.now c.reserve_granted_read.new.state c.requires c.args.a c.args.o c.args.query
    (sym (rw (c.as_slice.ensures.value) at c.ask_refusal.ensures) ∙ c.in-None.is) c.reserve_granted_read.ensures.journal

pub answer_with_memory-requires-clause-free : goal.answer_with_memory-requires-clause-free
answer_with_memory-requires-clause-free c =
    still c.args.state.now c.reserve_granted_read.new.state c.requires c.args.a c.args.o c.args.query
    (sym (rw (c.as_slice.ensures.value) at c.ask_refusal.ensures) ∙ c.in-None.is) c.reserve_granted_read.ensures.journal
