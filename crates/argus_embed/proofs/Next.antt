-- One more call of a list, made.
use Rattle.std.proofs.Common.{List, [], ap, drop, drop-cons, get_or, length, subst, suc, sym, true, ℕ, ◌<◌, ◌++◌, ◌∙◌}
use Rattle.std.proofs.Common.{◌∷◌, ◌≡◌}
use Rattle.std.specs.Prelude.{Bool, ◌&&◌}
use Rattle.argus_journal.specs.{Call.PlainCall, JournalView.{JournalView, reply_to}, Reply.PlainReply}
use Rattle.argus_embed.specs.CallEach.{IsNext, SayEach, SaysAfter, after_calls, after_next, after_nexts, are_met}
use Rattle.argus_embed.specs.{CallEach.{is_met, replies_to}, Embedded.EmbeddedState}
use Rattle.argus_embed.specs.declared.listed_call.ListedCall.{ListedCall}
use Rattle.argus_embed.proofs.CallEach.{calls_more, met_more, replies_count, replies_more, say_more}

-- the calls with one more
pub next_made : (listed : List ListedCall) (old now new : EmbeddedState) (before behind : List PlainReply)
    (calls : List PlainCall) (index : ℕ) (d : ListedCall) (met : Bool) → SayEach old.journal [] listed calls → now ≡ after_nexts old calls
    → before ≡ replies_to old.journal calls → are_met listed (replies_to old.journal calls) ≡ true
    → length calls ≡ index → index < length listed → (next : IsNext (get_or listed index d) now new before behind met)
    → SayEach old.journal [] listed (calls ++ next.0 ∷ []) × (new ≡ after_nexts old (calls ++ next.0 ∷ []))
    × (behind ≡ replies_to old.journal (calls ++ next.0 ∷ [])) × (are_met listed behind ≡ met)
next_made listed old now new before behind calls index d met say state replies are count below next =
    let call = next.0 in
    let each = get_or listed index d in
    let rest = drop (suc index) listed in
    let here : drop (length calls) listed ≡ each ∷ rest =
    ap (λ (n : ℕ). drop n listed) count ∙ drop-cons listed index d below in
    let so_far = replies_to old.journal calls in
    let last = reply_to (after_calls old.journal calls) call in
    let same : reply_to now.journal call ≡ last = ap (λ (h : EmbeddedState). reply_to h.journal call) state in
    let told : behind ≡ so_far ++ last ∷ [] =
    next.3 ∙ ap (λ (l : List PlainReply). l ++ reply_to now.journal call ∷ []) replies
    ∙ ap (λ (r : PlainReply). so_far ++ r ∷ []) same in
    let there : drop (length so_far) listed ≡ each ∷ rest =
    ap (λ (n : ℕ). drop n listed) (replies_count old.journal calls) ∙ here in (
      say_more old.journal [] listed calls each rest call say here (subst (λ (b : List PlainReply). SaysAfter b each call) replies next.1),
      next.2 ∙ ap (λ (h : EmbeddedState). after_next h call) state
          ∙ ap (λ (j : JournalView). record old { journal = j }) (sym (calls_more old.journal calls call)),
      told ∙ sym (replies_more old.journal calls call),
      ap (λ (l : List PlainReply). are_met listed l) told ∙ met_more listed so_far each rest last there
          ∙ ap (λ (b : Bool). b && is_met each last) are ∙ ap (λ (r : PlainReply). is_met each r) (sym same) ∙ sym next.4,
    )
