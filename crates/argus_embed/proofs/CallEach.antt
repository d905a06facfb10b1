-- Several calls: what one more call adds.
use Rattle.std.proofs.Common.{List, [], ap, append_assoc, append-nil, arith, drop, length, refl, subst, suc, sym, ◌++◌}
use Rattle.std.proofs.{Common.{◌∙◌, ◌∷◌, ◌≡◌, ◌≤◌}, Math.Bool.{and-true, and_assoc}}
use Rattle.std.specs.Prelude.{Bool, ◌&&◌}
use Rattle.argus_journal.specs.{Call.PlainCall, JournalView.{JournalView, after, reply_to}, Reply.PlainReply}
use Rattle.argus_embed.specs.declared.listed_call.ListedCall.{ListedCall}
use Rattle.argus_embed.specs.CallEach.{SayEach, SaysAfter, after_calls, are_met, is_met, replies_to}

pub calls_more : (journal : JournalView) (calls : List PlainCall) (call : PlainCall)
    → after_calls journal (calls ++ call ∷ []) ≡ after (after_calls journal calls) call
calls_more journal [] call = refl
calls_more journal (first ∷ calls) call = calls_more (after journal first) calls call

pub replies_more : (journal : JournalView) (calls : List PlainCall) (call : PlainCall)
    → replies_to journal (calls ++ call ∷ [])
    ≡ replies_to journal calls ++ reply_to (after_calls journal calls) call ∷ []
replies_more journal [] call = refl
replies_more journal (first ∷ calls) call =
    ap (λ l. reply_to journal first ∷ l) (replies_more (after journal first) calls call)

pub replies_count : (journal : JournalView) (calls : List PlainCall) → length (replies_to journal calls) ≡ length calls
replies_count journal [] = refl
replies_count journal (first ∷ calls) = ap (λ n. suc n) (replies_count (after journal first) calls)

-- where the call of the list that comes next stands for one, so many and one stand for theirs
pub say_more : (journal : JournalView) (before : List PlainReply) (listed : List ListedCall) (calls : List PlainCall)
    (each : ListedCall) (rest : List ListedCall) (call : PlainCall) → SayEach journal before listed calls
    → drop (length calls) listed ≡ each ∷ rest → SaysAfter (before ++ replies_to journal calls) each call
    → SayEach journal before listed (calls ++ call ∷ [])
say_more journal before [] [] each rest call says is behind = cc
say_more journal before (first ∷ listed) [] each rest call says is behind =
    let same : each ≡ first = cc in
    let none : before ++ [] ≡ before = append-nil before in (
      subst (λ (e : ListedCall). SaysAfter before e call) same
          (subst (λ (b : List PlainReply). SaysAfter b each call) none behind),
      tt,
    )
say_more journal before [] (made ∷ calls) each rest call says is behind = absurd says
say_more journal before (first ∷ listed) (made ∷ calls) each rest call says is behind =
    let whole = append_assoc before (reply_to journal made ∷ []) (replies_to (after journal made) calls) in (
      says.0,
      say_more (after journal made) (before ++ reply_to journal made ∷ []) listed calls each rest call says.1 is
          (subst (λ (b : List PlainReply). SaysAfter b each call) (sym whole) behind),
    )

-- so many and one are as demanded where so many are and the next one is
pub met_more : (listed : List ListedCall) (replies : List PlainReply) (each : ListedCall) (rest : List ListedCall)
    (reply : PlainReply) → drop (length replies) listed ≡ each ∷ rest
    → are_met listed (replies ++ reply ∷ []) ≡ (are_met listed replies && is_met each reply)
met_more [] [] each rest reply is = cc
met_more (first ∷ listed) [] each rest reply is =
    let same : first ≡ each = cc in
    and-true (is_met first reply) ∙ ap (λ (e : ListedCall). is_met e reply) same
met_more [] (made ∷ replies) each rest reply is = cc
met_more (first ∷ listed) (made ∷ replies) each rest reply is =
    ap (λ (b : Bool). is_met first made && b) (met_more listed replies each rest reply is)
    ∙ sym (and_assoc (is_met first made) (are_met listed replies) (is_met each reply))

-- they are no more than the calls of the list
pub say_count : (journal : JournalView) (before : List PlainReply) (listed : List ListedCall) (calls : List PlainCall)
    → SayEach journal before listed calls → length calls ≤ length listed
say_count journal before listed [] says = omega arith
say_count journal before [] (made ∷ calls) says = absurd says
say_count journal before (first ∷ listed) (made ∷ calls) says =
    let rest = say_count (after journal made) (before ++ reply_to journal made ∷ []) listed calls says.1 in
    omega arith
