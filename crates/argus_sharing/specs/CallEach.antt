-- Several calls, one after another, up to the first whose reply isn't as demanded.
use Rattle.std.specs.Prelude.{Bool, List, [], false, if◌then◌else◌, suc, true, zero, ℕ, ◌++◌, ◌∷◌}
use Rattle.argus_contents.specs.{Answer.{PlainAnswer, body, done, flag, num, signal, val}, Effect.Effect}
use Rattle.argus_core.specs.ReadyCommit.{added_by_call}
use Rattle.argus_entries.specs.{Call.plain_call, Reply.{PlainReply, answered, begun, object, plain_reply, refused}}
use Rattle.argus_entries.specs.Same.{same_reply}
use Rattle.argus_journal.specs.JournalView.{JournalView, after, reply_to}
use Rattle.argus_sharing.specs.{declared.calls_end.CallsEnd.CallsEnd, declared.demand.Demand.Demand}
use Rattle.argus_sharing.specs.declared.calls_end.CallsEnd.TheVariants.{Unmet, Whole}
use Rattle.argus_sharing.specs.declared.demanded_call.DemandedCall.{DemandedCall}
use Rattle.argus_sharing.specs.declared.demand.Demand.TheVariants as demand

-- the reply isn't a refusal
abbrev pub is_no_refusal : PlainReply → Bool
is_no_refusal (object o) = true
is_no_refusal (begun a) = true
is_no_refusal (answered a) = true
is_no_refusal (refused r) = false

-- the answer isn't a signal
abbrev pub is_result : PlainAnswer → Bool
is_result done = true
is_result (val v) = true
is_result (num n) = true
is_result (flag b) = true
is_result (body c) = true
is_result (signal s) = false

-- the reply is neither a refusal nor a signal
abbrev pub is_no_signal : PlainReply → Bool
is_no_signal (object o) = true
is_no_signal (begun a) = true
is_no_signal (answered a) = is_result a
is_no_signal (refused r) = false

-- the reply meets the demand
abbrev pub meets : Demand → PlainReply → Bool
meets demand.Nothing reply = true
meets demand.NoRefusal reply = is_no_refusal reply
meets demand.NoSignal reply = is_no_signal reply
meets (demand.Exactly demanded) reply = same_reply (plain_reply demanded) reply

-- the reply that follows from the journal meets the demand
abbrev pub is_met : JournalView → DemandedCall → Bool
is_met journal each = meets each.demand (reply_to journal (plain_call each.call))

-- the replies to the calls, up to the first that isn't as demanded
abbrev pub replies_of : JournalView → List DemandedCall → List PlainReply
replies_of journal [] = []
replies_of journal (each ∷ calls) = reply_to journal (plain_call each.call)
    ∷ (if is_met journal each then replies_of (after journal (plain_call each.call)) calls else [])

-- why no more calls are made, as long as there is memory
abbrev pub end_of : JournalView → List DemandedCall → CallsEnd
end_of journal [] = Whole
end_of journal (each ∷ calls) =
    if is_met journal each then end_of (after journal (plain_call each.call)) calls else Unmet

-- the journal with the first n of the calls
abbrev pub after_calls : JournalView → List DemandedCall → ℕ → JournalView
after_calls journal calls zero = journal
after_calls journal [] (suc n) = journal
after_calls journal (each ∷ calls) (suc n) = after_calls (after journal (plain_call each.call)) calls n

-- what the first n of the calls add to the effects
abbrev pub added_by_calls : JournalView → List DemandedCall → ℕ → List Effect
added_by_calls journal calls zero = []
added_by_calls journal [] (suc n) = []
added_by_calls journal (each ∷ calls) (suc n) = added_by_call journal (plain_call each.call)
    ++ added_by_calls (after journal (plain_call each.call)) calls n
