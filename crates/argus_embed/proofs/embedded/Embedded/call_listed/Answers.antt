use Rattle.std.proofs.{Common.{[], ap, arith, map, ◌++◌, ◌+◌, ◌∙◌, sym, ◌∷◌}, lemmas.List.length_push}
use Rattle.argus_embed.specs.CallEach.{are_met}
use Rattle.argus_journal.specs.{JournalView.reply_to, Reply.plain_reply}
use Rattle.argus_embed.proofs.Next.{next_made}
use Rattle.argus_embed.proofs.embedded.Embedded.call_listed.Goals as goal

pub returns-in-Ok-false : goal.returns-in-Ok-false
returns-in-Ok-false c =
    let inv = c.loop-each.invariant in
    let listed = c.args.calls.now in
    let before = map plain_reply c.loop-each.replies.items in
    let next = c.in-Ok-false.ensures.next in
    let made = next_made listed c.args.self.now c.loop-each.self c.call_next.new.self before
    (map plain_reply c.call_next.new.replies.items) inv.0 c.loop-each.each-index _ c.in-Ok-false.field-0 inv.1 inv.2 inv.3 inv.6 inv.4
    c.loop-each-test.true next in (
      inv.0 ++ next.0 ∷ [],
      made.0,
      made.1,
      made.2,
      (
        before,
        (
          reply_to c.loop-each.self.journal next.0,
          next.3,
          ap (λ l. are_met listed l) inv.3 ∙ inv.6,
          made.3 ∙ c.in-Ok-false.field-0-test,
        ),
      ),
    )

pub loop-each-preserved : goal.loop-each-preserved
loop-each-preserved c =
    let inv = c.loop-each.invariant in
    let listed = c.args.calls.now in
    let before = map plain_reply c.loop-each.replies.items in
    let next = c.in-Ok-true.ensures.next in
    let made = next_made listed c.args.self.now c.loop-each.self c.call_next.new.self before
    (map plain_reply c.call_next.new.replies.items) inv.0 c.loop-each.each-index _ c.in-Ok-true.field-0 inv.1 inv.2 inv.3 inv.6 inv.4
    c.loop-each-test.true next in (
      inv.0 ++ next.0 ∷ [],
      made.0,
      made.1,
      made.2,
      length_push inv.0 next.0 ∙ ap (λ n. n + 1) inv.4,
      c.in-Ok-true.ensures.count ∙ ap (λ n. n + 1) inv.5,
      ap (λ l. are_met listed l) (sym made.2) ∙ made.3 ∙ c.in-Ok-true.field-0-test,
      omega (arith, inv.7, c.in-Ok-true.ensures.room),
    )
