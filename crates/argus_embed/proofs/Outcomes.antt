-- The outcomes in a list, call by call.
use Rattle.std.proofs.Common.{List, [], ap, arith, get_or, length, map, refl, subst, suc, sym, take, zero, ℕ, ◌+◌, ◌<◌}
use Rattle.std.proofs.{Common.{◌∙◌, ◌≤◌, ◌∷◌, ◌≡◌}, lemmas.List.{get_or-map, length-map}, Math.ListN.set}
use Rattle.std.specs.Prelude.{ℤ}
use Rattle.argus_embed.specs.{CallEach.{with_codes, with_error, with_outcomes}, Codes.{error_codes, outcome_codes}}
use Rattle.argus_embed.specs.{Embedded.outcome_of, declared.embed_error.EmbedError.EmbedError}
use Rattle.argus_embed.specs.{declared.listed_call.ListedCall.ListedCall, declared.outcome.Outcome.Outcome}
use Rattle.argus_journal.specs.{Reply.{PlainReply, plain_reply}, declared.Reply.Reply}

pub failed_here : (listed : List ListedCall) (at : ℕ) (d : ListedCall) (e : EmbedError) (codes : ℕ × ℤ) (x : ListedCall)
    → at < length listed → x ≡ with_codes (get_or listed at d) codes → codes ≡ error_codes e
    → set listed at x ≡ with_error listed at e
failed_here [] at d e codes x below is are = absurd (omega arith)
failed_here (each ∷ listed) zero d e codes x below is are =
    ap (λ (c : ListedCall). c ∷ listed) (is ∙ ap (λ (k : ℕ × ℤ). with_codes each k) are)
failed_here (each ∷ listed) (suc at) d e codes x below is are =
    ap (λ (l : List ListedCall). each ∷ l) (failed_here listed at d e codes x (omega arith) is are)

pub failed_past : (listed : List ListedCall) (at : ℕ) (e : EmbedError) → length listed ≤ at → listed ≡ with_error listed at e
failed_past [] at e past = refl
failed_past (each ∷ listed) zero e past = absurd (omega arith)
failed_past (each ∷ listed) (suc at) e past = ap (λ (l : List ListedCall). each ∷ l) (failed_past listed at e (omega arith))

-- one outcome more, in its place
pub set_next : (listed : List ListedCall) (replies : List PlainReply) (at : ℕ) (d : ListedCall) (r : PlainReply)
    → at < length listed → at < length replies → set (with_outcomes listed (take at replies)) at
    (with_codes (get_or (with_outcomes listed (take at replies)) at d) (outcome_codes (outcome_of (get_or replies at r))))
    ≡ with_outcomes listed (take (suc at) replies)
set_next [] replies at d r here there = absurd (omega arith)
set_next (each ∷ listed) [] at d r here there = absurd (omega arith)
set_next (each ∷ listed) (reply ∷ replies) zero d r here there = refl
set_next (each ∷ listed) (reply ∷ replies) (suc at) d r here there =
    ap (λ (l : List ListedCall). with_codes each (outcome_codes (outcome_of reply)) ∷ l)
    (set_next listed replies at d r (omega arith) (omega arith))

-- the same of a list that has the outcomes so far, by the replies as the code has them
pub outcome_here : (listed now : List ListedCall) (items : List Reply) (at : ℕ) (d : ListedCall) (e : Reply)
    (outcome : Outcome) (codes : ℕ × ℤ) (x : ListedCall) → now ≡ with_outcomes listed (take at (map plain_reply items))
    → at < length listed → at < length items → x ≡ with_codes (get_or now at d) codes → codes ≡ outcome_codes outcome
    → outcome ≡ outcome_of (plain_reply (get_or items at e))
    → set now at x ≡ with_outcomes listed (take (at + 1) (map plain_reply items))
outcome_here listed now items at d e outcome codes x so_far here there is are from =
    let replies = map plain_reply items in
    let r = plain_reply e in
    let last = get_or-map plain_reply items at e r there in
    let within = subst (λ (n : ℕ). at < n) (sym (length-map items plain_reply)) there in
    let next = set_next listed replies at d r here within in
    let more : suc at ≡ at + 1 = omega arith in
    cc
