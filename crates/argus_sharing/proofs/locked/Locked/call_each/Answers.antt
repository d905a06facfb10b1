-- One call more goes on behind those that were made.
use Rattle.std.proofs.Common.{[], ap, arith, drop, false, length, map, rules, subst, suc, sym, true, ◌++◌, ◌+◌, ◌<◌}
use Rattle.std.proofs.{Common.{◌∙◌, ◌∷◌, ◌≡◌}, lemmas.List.append-nil}
use Rattle.argus_entries.specs.{Call.plain_call, Reply.plain_reply}
use Rattle.argus_sharing.specs.{CallEach.{added_by_calls, after_calls, end_of, is_met, replies_of}, Following.GoesOn}
use Rattle.argus_sharing.specs.Locked.{LockedState}
use Rattle.argus_sharing.proofs.CallEach.{end_more, goes_on_more, next_call, replies_end, replies_more, some_reply}
use Rattle.argus_sharing.proofs.{Follow.{shared_on, stays}, locked.Locked.call_each.Goals.{in-Ok-false, in-Err}}
use Rattle.argus_sharing.proofs.locked.Locked.call_each.Goals as goal

pub returns-then-is_err-clause-replies : goal.returns-then-is_err-clause-replies
returns-then-is_err-clause-replies g c =
    let all = replies_of c.args.self.now.journal c.args.calls.now in
    (all, ap (λ items. map plain_reply items ++ all) (c.reserve.ensures.items ∙ c.new-replies.ensures.items))

pub returns-then-is_err-clause-memory : goal.returns-then-is_err-clause-memory
returns-then-is_err-clause-memory g c = λ _.
    let all = replies_of c.args.self.now.journal c.args.calls.now in
    let some : 0 < length c.args.calls.now = search rules in
    subst (λ items. length items < length all) (sym (c.reserve.ensures.items ∙ c.new-replies.ensures.items))
    (some_reply c.args.self.now.journal c.args.calls.now some)

pub loop-each-preserved : goal.loop-each-preserved
loop-each-preserved g c =
    let inv = c.loop-each.invariant in
    let each = c.each-item.result in
    let i = c.loop-each.each-index in
    let all = c.args.calls.now in
    let rest = drop (i + 1) all in
    let journal = c.loop-each.self.journal in
    let first = c.args.self.now.journal in
    let so_far = c.loop-each.replies.items in
    let now = c.answer_next.new.replies.items in
    let calls : drop i all ≡ each ∷ rest = next_call all i each c.loop-each-test.true c.each-item.is in
    let made = c.in-Ok-true.ensures in
    let met : is_met journal each ≡ true = sym made.met ∙ c.in-Ok-true.field-0-test in (
      rw made.journal (replies_more journal each rest (map plain_reply so_far) (map plain_reply now) (replies_of first all) met
          made.replies (ap (λ l. map plain_reply so_far ++ replies_of journal l) (sym calls) ∙ inv.0)),
      rw made.journal (end_more journal each rest met ∙ ap (λ l. end_of journal l) (sym calls) ∙ inv.1),
      omega (arith, made.count, inv.2),
      (λ n. ap (λ k. after_calls first all k) (omega arith) ∙ inv.3 (suc n)
          ∙ ap (λ l. after_calls journal l (suc n)) calls ∙ ap (λ j. after_calls j rest n) (sym made.journal)),
      omega (arith, made.made, inv.4),
      omega (arith, inv.5, made.room),
      shared_on g.N.Sharing.start journal c.answer_next.new.self.journal (plain_call each.call) made.shared made.journal,
      made.board,
      (λ n later more. subst (λ k. GoesOn c.args.self.now.board later (added_by_calls first all k)) (omega arith)
          (inv.8 (suc n) later (subst (λ l. GoesOn c.loop-each.self.board later (added_by_calls journal l (suc n))) (sym calls)
          (goes_on_more journal each rest c.loop-each.self.board c.answer_next.new.self.board later n made.goes_on
          (subst (λ j. GoesOn c.answer_next.new.self.board later (added_by_calls j rest n)) made.journal more))))),
    )

-- the last call that was made isn't met, and one that found no memory has no reply
pub returns-in-loop-each-clause-replies : goal.returns-in-loop-each-clause-replies
returns-in-loop-each-clause-replies g c =
    let inv = c.loop-each.invariant in
    let each = c.each-item.result in
    let i = c.loop-each.each-index in
    let all = c.args.calls.now in
    let rest = drop (i + 1) all in
    let journal = c.loop-each.self.journal in
    let whole = replies_of c.args.self.now.journal all in
    let so_far = c.loop-each.replies.items in
    let now = c.answer_next.new.replies.items in
    elim c.match-answer_next.branch [
      | in-Ok-false w ↦
          let calls : drop i all ≡ each ∷ rest = next_call all i each c.loop-each-test.true c.each-item.is in
          let made = w.in-Ok-false.ensures in
          let unmet : is_met journal each ≡ false = sym made.met ∙ w.in-Ok-false.field-0-test in (
            [],
            append-nil (map plain_reply now) ∙ replies_end journal each rest (map plain_reply so_far) (map plain_reply now)
                whole unmet made.replies (ap (λ l. map plain_reply so_far ++ replies_of journal l) (sym calls) ∙ inv.0),
          )
      | in-Err w ↦
          let left = replies_of journal (drop i all) in
          (left, ap (λ items. map plain_reply items ++ left) w.in-Err.ensures.err.2 ∙ inv.0)
    ]

pub returns-in-loop-each-clause-journal : goal.returns-in-loop-each-clause-journal
returns-in-loop-each-clause-journal g c =
    let inv = c.loop-each.invariant in
    let each = c.each-item.result in
    let i = c.loop-each.each-index in
    let all = c.args.calls.now in
    let journal = c.loop-each.self.journal in
    let first = c.args.self.now.journal in
    let now = c.answer_next.new.replies.items in
    elim c.match-answer_next.branch [
      | in-Ok-false w ↦
          let calls : drop i all ≡ each ∷ drop (i + 1) all = next_call all i each c.loop-each-test.true c.each-item.is in
          let made = w.in-Ok-false.ensures in
          let count : length now ≡ i + 1 = omega (arith, made.count, inv.2) in
          made.journal ∙ sym (ap (λ k. after_calls first all k) count ∙ inv.3 1
          ∙ ap (λ l. after_calls journal l 1) calls)
      | in-Err w ↦
          let none = w.in-Err.ensures.err in
          let count : length now ≡ i + 0 = omega (arith, ap length none.2, inv.2) in
          ap (λ (s : LockedState). s.journal) none.0
          ∙ sym (ap (λ k. after_calls first all k) count ∙ inv.3 0)
    ]

-- the last call that was made adds its effect, and one that found no memory adds none
pub returns-in-loop-each-clause-goes_on : goal.returns-in-loop-each-clause-goes_on
returns-in-loop-each-clause-goes_on g c =
    let inv = c.loop-each.invariant in
    let each = c.each-item.result in
    let i = c.loop-each.each-index in
    let all = c.args.calls.now in
    let rest = drop (i + 1) all in
    let state = c.loop-each.self in
    let board = c.answer_next.new.self.board in
    let first = c.args.self.now in
    let now = c.answer_next.new.replies.items in
    elim c.match-answer_next.branch [
      | in-Ok-false w ↦
          let calls : drop i all ≡ each ∷ rest = next_call all i each c.loop-each-test.true c.each-item.is in
          let made = w.in-Ok-false.ensures in
          let count : length now ≡ i + 1 = omega (arith, made.count, inv.2) in
          subst (λ n. GoesOn first.board board (added_by_calls first.journal all n)) (sym count)
          (inv.8 1 board (subst (λ l. GoesOn state.board board (added_by_calls state.journal l 1)) (sym calls)
          (goes_on_more state.journal each rest state.board board board 0 made.goes_on (stays board))))
      | in-Err w ↦
          let none = w.in-Err.ensures.err in
          let same = ap (λ (s : LockedState). s.board) none.0 in
          let count : length now ≡ i + 0 = omega (arith, ap length none.2, inv.2) in
          subst (λ n. GoesOn first.board board (added_by_calls first.journal all n)) (sym count)
          (inv.8 0 board (subst (λ b. GoesOn b board []) same (stays board)))
    ]

-- where no call is left nothing more is added
pub returns-clause-journal : goal.returns-clause-journal
returns-clause-journal g c =
    let inv = c.loop-each.invariant in
    let count : length c.loop-each.replies.items ≡ c.loop-each.each-index + 0 = omega (arith, inv.2) in
    sym (ap (λ k. after_calls c.args.self.now.journal c.args.calls.now k) count ∙ inv.3 0)

pub returns-clause-goes_on : goal.returns-clause-goes_on
returns-clause-goes_on g c =
    let inv = c.loop-each.invariant in
    let board = c.loop-each.self.board in
    let first = c.args.self.now in
    let count : length c.loop-each.replies.items ≡ c.loop-each.each-index + 0 = omega (arith, inv.2) in
    subst (λ n. GoesOn first.board board (added_by_calls first.journal c.args.calls.now n)) (sym count)
    (inv.8 0 board (stays board))
