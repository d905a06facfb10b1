-- There is its demand, and the call that it stands for; only memory was wanting.
use Rattle.std.proofs.Common.{List, None, Some, ap, inr, map, rules, subst, sym, ◌∙◌, ◌≡◌, ◌≢◌}
use Rattle.argus_journal.specs.{Call.plain_call, Reply.{PlainReply, plain_reply}}
use Rattle.argus_embed.specs.CallEach.{IsUnreadAfter, IsUnreadWith, action_by, demand_of}
use Rattle.argus_embed.specs.declared.embed_error.EmbedError.TheVariants as error
use Rattle.argus_embed.proofs.{Listed.unread_for_memory, Listings.call_read}
use Rattle.argus_embed.proofs.embedded.Embedded.call_next.Goals as goal

pub returns-in_err-reply-clause-unread : goal.returns-in_err-reply-clause-unread
returns-in_err-reply-clause-unread c =
    let each = c.args.each.now in
    let replies = map plain_reply c.args.replies.now.items in
    let taken = map plain_reply c.as_slice.result.now in
    let same : taken ≡ replies = ap (λ l. map plain_reply l) c.as_slice.ensures.value in
    let some : Some c.in-Some.demand ≡ demand_of each.demand = sym c.in-Some.is ∙ c.of.ensures in
    let there : demand_of each.demand ≢ None = λ none. let no : Some c.in-Some.demand ≡ None = some ∙ none in cc in
    let memory : IsUnreadWith (action_by replies each.begun_by each.action) each error.OutOfMemory =
    subst (λ (l : List PlainReply). IsUnreadWith (action_by l each.begun_by each.action) each error.OutOfMemory) same
    (unread_for_memory (action_by taken each.begun_by each.action) each (plain_call c.in_ok-call.call)
    c.in_ok-call.ensures.says) in
    let unread : IsUnreadAfter replies each error.OutOfMemory = inr (there, memory) in
    search rules

pub invariant_of-self-2 : goal.invariant_of-self-2
invariant_of-self-2 c =
    call_read c.self.inside.guardian c.call.new.self (plain_call c.in_ok-call.call) c.in_ok-reply.ensures.ok
    c.self.invariant c.in_ok-call.ensures.readable
