-- Several calls, one after another, up to the first whose outcome isn't as demanded.
use Rattle.std.specs.Prelude.{Bool, List, None, Option, Some, [], drop, false, length, suc, true, slice_get, zero, ℕ, ℤ}
use Rattle.std.specs.{Prelude.{◌&&◌, ◌++◌, ◌∷◌, ◌≡◌, ◌≢◌, ◌⊎◌}, Str.IsUtf8}
use Rattle.argus_journal.specs.{Call.PlainCall, JournalView.{JournalView, after, reply_to}}
use Rattle.argus_journal.specs.Reply.{PlainReply, answered, begun, object, refused}
use Rattle.argus_embed.specs.{Codes.{error_codes, outcome_codes}, Embedded.{EmbeddedState, outcome_of, reply_lines}}
use Rattle.argus_embed.specs.{Requests.{IsRead, IsUnread, Says}, declared.calls_made.CallsMade.CallsMade}
use Rattle.argus_embed.specs.{declared.demand.Demand.Demand, declared.embed_error.EmbedError.EmbedError}
use Rattle.argus_embed.specs.declared.demand.Demand.TheVariants.{NoRefusal, NoSignal, Nothing}
use Rattle.argus_embed.specs.{declared.list_end.ListEnd.ListEnd, declared.listed_call.ListedCall.ListedCall}
use Rattle.argus_embed.specs.declared.list_end.ListEnd.TheVariants.{Failed, Unmet, Whole}
use Rattle.argus_embed.specs.{declared.outcome.Outcome.Outcome, declared.request.Request.Request}
use Rattle.argus_embed.specs.declared.embed_error.EmbedError.TheVariants as error
use Rattle.argus_embed.specs.declared.outcome.Outcome.TheVariants as outcome

-- what a number demands
abbrev pub demand_of : ℕ → Option Demand
demand_of zero = Some NoRefusal
demand_of (suc zero) = Some Nothing
demand_of (suc (suc zero)) = Some NoSignal
demand_of (suc (suc (suc n))) = None

-- it is no refusal
abbrev pub is_no_refusal : Outcome → Bool
is_no_refusal outcome.Done = true
is_no_refusal (outcome.Object o) = true
is_no_refusal (outcome.Action a) = true
is_no_refusal (outcome.Number n) = true
is_no_refusal (outcome.Flag truth) = true
is_no_refusal outcome.Value = true
is_no_refusal outcome.Content = true
is_no_refusal outcome.Text = true
is_no_refusal (outcome.Signal signal) = true
is_no_refusal (outcome.Refused refusal) = false

-- it is neither a refusal nor a signal
abbrev pub is_no_signal : Outcome → Bool
is_no_signal outcome.Done = true
is_no_signal (outcome.Object o) = true
is_no_signal (outcome.Action a) = true
is_no_signal (outcome.Number n) = true
is_no_signal (outcome.Flag truth) = true
is_no_signal outcome.Value = true
is_no_signal outcome.Content = true
is_no_signal outcome.Text = true
is_no_signal (outcome.Signal signal) = false
is_no_signal (outcome.Refused refusal) = false

-- the outcome is as demanded
abbrev pub meets : Demand → Outcome → Bool
meets NoRefusal o = is_no_refusal o
meets Nothing o = true
meets NoSignal o = is_no_signal o

-- the same, if there is such a demand
abbrev pub meets_any : Option Demand → Outcome → Bool
meets_any (Some demand) o = meets demand o
meets_any None o = false

-- the reply is as the call demands
abbrev pub is_met : ListedCall → PlainReply → Bool
is_met each reply = meets_any (demand_of each.demand) (outcome_of reply)

-- this many of the replies, from the first on, are as demanded
abbrev pub are_met : List ListedCall → List PlainReply → Bool
are_met listed [] = true
are_met [] (reply ∷ replies) = false
are_met (each ∷ listed) (reply ∷ replies) = is_met each reply && are_met listed replies

-- the action that a reply says was begun, if any
abbrev pub action_begun : Option PlainReply → Option ℕ
action_begun (Some (begun a)) = Some a
action_begun (Some (object o)) = None
action_begun (Some (answered answer)) = None
action_begun (Some (refused why)) = None
action_begun None = None

-- the action itself, or the one that a call of the list began, counted from 1
abbrev pub action_by : List PlainReply → ℕ → ℕ → Option ℕ
action_by replies zero action = Some action
action_by replies (suc place) action = action_begun (slice_get replies place)

-- the request that a call of a list is, of this action
abbrev pub request_of : ListedCall → ℕ → Request
request_of each action = record {
  kind = each.kind;
  action = action;
  object = each.object;
  first = each.first;
  second = each.second;
}

-- the call of the list stands for this one: its action is there, its text is UTF-8, and with its numbers
-- they are those of a call
abbrev pub SaysWith : Option ℕ → ListedCall → PlainCall → Type 0
SaysWith None each call = ⊥
SaysWith (Some action) each call =
    IsUtf8 each.text.now × Says (request_of each action) each.text.now call
    × IsRead (request_of each action) each.text.now

-- the same after these replies, and there is such a demand
abbrev pub SaysAfter : List PlainReply → ListedCall → PlainCall → Type 0
SaysAfter replies each call =
    (demand_of each.demand ≢ None)
    × SaysWith (action_by replies each.begun_by each.action) each call

-- why it stands for none: the call that should have begun its action isn't before it or began none;
-- otherwise its text isn't UTF-8; otherwise as for a single call
abbrev pub IsUnreadWith : Option ℕ → ListedCall → EmbedError → Type 0
IsUnreadWith None each e = e ≡ error.NotBegun
IsUnreadWith (Some action) each e =
    ((IsUtf8 each.text.now → ⊥) × (e ≡ error.NotUtf8))
    ⊎ (IsUtf8 each.text.now × IsUnread (request_of each action) each.text.now e)

-- the same after these replies, unless there is no such demand
abbrev pub IsUnreadAfter : List PlainReply → ListedCall → EmbedError → Type 0
IsUnreadAfter replies each e =
    ((demand_of each.demand ≡ None) × (e ≡ error.BadDemand)) ⊎ ((demand_of each.demand ≢ None)
    × IsUnreadWith (action_by replies each.begun_by each.action) each e)

-- the journal with these calls, made one after another
abbrev pub after_calls : JournalView → List PlainCall → JournalView
after_calls journal [] = journal
after_calls journal (call ∷ calls) = after_calls (after journal call) calls

-- their replies
abbrev pub replies_to : JournalView → List PlainCall → List PlainReply
replies_to journal [] = []
replies_to journal (call ∷ calls) = reply_to journal call ∷ replies_to (after journal call) calls

-- this many of the calls of the list, from the first on, stand for these, after these replies
abbrev pub SayEach : JournalView → List PlainReply → List ListedCall → List PlainCall → Type 0
SayEach journal replies listed [] = Unit {0}
SayEach journal replies [] (call ∷ calls) = ⊥
SayEach journal replies (each ∷ listed) (call ∷ calls) =
    SaysAfter replies each call
    × SayEach (after journal call) (replies ++ reply_to journal call ∷ []) listed calls

-- the text that is kept after these replies: their lines, or otherwise what was kept
abbrev pub lines_or : Option (List ℕ) → List PlainReply → Option (List ℕ)
lines_or text [] = text
lines_or text (reply ∷ replies) = Some (reply_lines (reply ∷ replies))

-- the same with these texts kept
abbrev pub with_lines : EmbeddedState → List PlainReply → EmbeddedState
with_lines state replies = record state { text = lines_or state.text replies }

-- after the calls of a list: the journal has them with their replies, whose texts are kept
abbrev pub after_each : EmbeddedState → List PlainCall → EmbeddedState
after_each state calls = record state {
  journal = after_calls state.journal calls;
  text = lines_or state.text (replies_to state.journal calls);
}

-- after one call of a list, before the texts are kept
abbrev pub after_next : EmbeddedState → PlainCall → EmbeddedState
after_next state call = record state { journal = after state.journal call }

-- after this many of them
abbrev pub after_nexts : EmbeddedState → List PlainCall → EmbeddedState
after_nexts state calls = record state { journal = after_calls state.journal calls }

-- no call was made, since there is no memory for the replies
abbrev pub IsWithoutRoom : List PlainReply → EmbedError → Type 0
IsWithoutRoom replies e = (replies ≡ []) × (e ≡ error.OutOfMemory)

-- why the call that comes first wasn't made
abbrev pub IsFailed : List PlainReply → List ListedCall → EmbedError → Type 0
IsFailed replies [] e = ⊥
IsFailed replies (each ∷ listed) e = IsUnreadAfter replies each e ⊎ IsWithoutRoom replies e

-- why no more were made, after these replies
abbrev pub IsEnd : List ListedCall → List PlainReply → ListEnd → Type 0
IsEnd listed replies Whole = (length replies ≡ length listed) × (are_met listed replies ≡ true)
IsEnd listed replies Unmet =
    (met : List PlainReply) × ((last : PlainReply) × (replies ≡ met ++ last ∷ [])
    × (are_met listed met ≡ true) × (are_met listed replies ≡ false))
IsEnd listed replies (Failed e) =
    (are_met listed replies ≡ true) × IsFailed replies (drop (length replies) listed) e

-- the same call of a list, with what came of it
abbrev pub with_codes : ListedCall → ℕ × ℤ → ListedCall
with_codes each codes = record each { status = codes.0; number = codes.1 }

-- the list with what came of the first calls, which were made
abbrev pub with_outcomes : List ListedCall → List PlainReply → List ListedCall
with_outcomes listed [] = listed
with_outcomes [] (reply ∷ replies) = []
with_outcomes (each ∷ listed) (reply ∷ replies) =
    with_codes each (outcome_codes (outcome_of reply)) ∷ with_outcomes listed replies

-- the list with what came of the call at this place, which failed
abbrev pub with_error : List ListedCall → ℕ → EmbedError → List ListedCall
with_error [] at e = []
with_error (each ∷ listed) zero e = with_codes each (error_codes e) ∷ listed
with_error (each ∷ listed) (suc at) e = each ∷ with_error listed at e

-- the same, if it failed
abbrev pub with_end : List ListedCall → ℕ → ListEnd → List ListedCall
with_end listed at Whole = listed
with_end listed at Unmet = listed
with_end listed at (Failed e) = with_error listed at e

-- this many calls were made, from the first on, and no more: they are those that the calls of the list stand for
abbrev pub AreCalled : List ListedCall → List ListedCall → EmbeddedState → EmbeddedState → CallsMade
    → Type 0
AreCalled listed listed_after old new made =
    (calls : List PlainCall) × SayEach old.journal [] listed calls
    × (new ≡ after_each old calls) × (made.count ≡ length calls)
    × (listed_after ≡ with_end (with_outcomes listed (replies_to old.journal calls)) made.count made.end)
    × IsEnd listed (replies_to old.journal calls) made.end

-- the same before their texts are kept and the list has their outcomes, with their replies
abbrev pub AreMade : List ListedCall → EmbeddedState → EmbeddedState → List PlainReply → ListEnd
    → Type 0
AreMade listed old new replies end =
    (calls : List PlainCall) × SayEach old.journal [] listed calls × (new ≡ after_nexts old calls)
    × (replies ≡ replies_to old.journal calls) × IsEnd listed replies end

-- the call of a list was made, with this reply; it is as demanded or not
abbrev pub IsNext : ListedCall → EmbeddedState → EmbeddedState → List PlainReply → List PlainReply
    → Bool → Type 0
IsNext each old new before replies met =
    (call : PlainCall) × SaysAfter before each call × (new ≡ after_next old call)
    × (replies ≡ before ++ reply_to old.journal call ∷ [])
    × (met ≡ is_met each (reply_to old.journal call))
