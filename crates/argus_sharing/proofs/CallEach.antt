-- Several calls: what one more call adds.
use Rattle.std.proofs.Common.{List, [], ap, append_assoc, arith, drop, false, get_or, length, sym, true, ℕ, suc, ◌++◌}
use Rattle.std.proofs.{Common.{◌+◌, ◌∙◌, ◌∷◌, ◌<◌, ◌≡◌}, Math.Seq.drop-cons}
use Rattle.std.specs.Prelude.{if◌then◌else◌}
use Rattle.argus_board.specs.BoardView.{BoardView}
use Rattle.argus_core.specs.ReadyCommit.{added_by_call}
use Rattle.argus_entries.specs.{Call.plain_call, Reply.PlainReply}
use Rattle.argus_journal.specs.JournalView.{JournalView, after, reply_to}
use Rattle.argus_sharing.proofs.Follow.{goes_on_further}
use Rattle.argus_sharing.specs.{CallEach.{added_by_calls, end_of, is_met, replies_of}, Following.GoesOn}
use Rattle.argus_sharing.specs.declared.calls_end.CallsEnd.TheVariants.{Unmet}
use Rattle.argus_sharing.specs.declared.demanded_call.DemandedCall.{DemandedCall}

module _ (journal : JournalView) (each : DemandedCall) (rest : List DemandedCall) where
  abbrev next : JournalView
  next = after journal (plain_call each.call)

  abbrev mine : PlainReply
  mine = reply_to journal (plain_call each.call)

  -- what the calls behind it add comes after what it adds
  pub goes_on_more : (was now later : BoardView) (n : ℕ) → GoesOn was now (added_by_call journal (plain_call each.call))
      → GoesOn now later (added_by_calls next rest n) → GoesOn was later (added_by_calls journal (each ∷ rest) (suc n))
  goes_on_more was now later n on more =
      goes_on_further was now later (added_by_call journal (plain_call each.call)) (added_by_calls next rest n) on more

  -- where its reply is as demanded, the others go on behind it
  pub replies_more : (so_far now all : List PlainReply) → is_met journal each ≡ true → now ≡ so_far ++ mine ∷ []
      → so_far ++ replies_of journal (each ∷ rest) ≡ all → now ++ replies_of next rest ≡ all
  replies_more so_far now all met is whole =
      ap (λ z. z ++ replies_of next rest) is ∙ append_assoc so_far (mine ∷ []) (replies_of next rest)
      ∙ ap (λ b. so_far ++ mine ∷ (if b then replies_of next rest else [])) (sym met) ∙ whole

  pub end_more : is_met journal each ≡ true → end_of next rest ≡ end_of journal (each ∷ rest)
  end_more met = ap (λ b. if b then end_of next rest else Unmet) (sym met)

  -- where it isn't, they end with it
  pub replies_end : (so_far now all : List PlainReply) → is_met journal each ≡ false → now ≡ so_far ++ mine ∷ []
      → so_far ++ replies_of journal (each ∷ rest) ≡ all → now ≡ all
  replies_end so_far now all unmet is whole =
      is ∙ ap (λ b. so_far ++ mine ∷ (if b then replies_of next rest else [])) (sym unmet) ∙ whole

-- some call has a reply
pub some_reply : (journal : JournalView) (calls : List DemandedCall) → 0 < length calls → 0 < length (replies_of journal calls)
some_reply journal [] none = none
some_reply journal (each ∷ calls) some = omega arith

-- what is left behind the calls so far begins with the next one
pub next_call : (all : List DemandedCall) (i : ℕ) (each : DemandedCall) → i < length all → each ≡ get_or all i each
    → drop i all ≡ each ∷ drop (i + 1) all
next_call all i each low is =
    let more : suc i ≡ i + 1 = omega arith in
    drop-cons all i each low ∙ ap (λ x. x ∷ drop (suc i) all) (sym is) ∙ ap (λ k. each ∷ drop k all) more
