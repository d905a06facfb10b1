use Rattle.std.proofs.{Common.{List, [], ap, arith, length, map, subst, sym, ◌∙◌, ◌≡◌}, lemmas.List.length-map}
use Rattle.argus_embed.specs.CallEach.{IsEnd, after_nexts, with_end, with_lines, with_outcomes}
use Rattle.argus_embed.specs.declared.listed_call.ListedCall.{ListedCall}
use Rattle.argus_journal.specs.Reply.{PlainReply, plain_reply}
use Rattle.argus_embed.proofs.CallEach.{replies_count, say_count}
use Rattle.argus_embed.proofs.embedded.Embedded.call_each.Goals as goal

pub write_outcomes-requires : goal.write_outcomes-requires
write_outcomes-requires c =
    let made = c.call_listed-end.ensures in
    let items = c.call_listed-end.new.replies.items in
    let count : length items ≡ length made.0 =
    sym (length-map items plain_reply) ∙ ap (λ (l : List PlainReply). length l) made.3
    ∙ replies_count c.args.self.now.journal made.0 in
    let few = say_count c.args.self.now.journal [] c.args.calls.now made.0 made.1 in
    omega (arith, ap (λ l. length l) c.as_slice.ensures.value, count, few)

pub returns : goal.returns
returns c =
    let made = c.call_listed-end.ensures in
    let items = c.call_listed-end.new.replies.items in
    let replies = map plain_reply items in
    let listed = c.args.calls.now in
    let end = c.call_listed-end.result in
    let count : length items ≡ length made.0 =
    sym (length-map items plain_reply) ∙ ap (λ (l : List PlainReply). length l) made.3
    ∙ replies_count c.args.self.now.journal made.0 in
    let outcomes = c.write_outcomes.ensures
    ∙ ap (λ l. with_outcomes listed (map plain_reply l)) c.as_slice.ensures.value
    ∙ ap (λ (l : List PlainReply). with_outcomes listed l) made.3 in (
      made.0,
      made.1,
      c.keep_each.ensures ∙ ap (λ s. with_lines s replies) made.2
          ∙ ap (λ (l : List PlainReply). with_lines (after_nexts c.args.self.now made.0) l) made.3,
      c.len-count.ensures ∙ sym c.as_slice.ensures.len ∙ ap (λ l. length l) c.as_slice.ensures.value ∙ count,
      c.write_end-2.ensures ∙ ap (λ (l : List ListedCall). with_end l c.len-count.result end) outcomes,
      subst (λ (l : List PlainReply). IsEnd listed l end) made.3 made.4,
    )
