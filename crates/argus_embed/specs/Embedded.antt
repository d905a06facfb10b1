-- What contracts see of an embedded guardian, and what it is after a call and a question.
use Rattle.std.specs.{Coded.{Coded, code_by, coded_list, coded_option, coded_ℕ, coded×}, List.flat_map}
use Rattle.std.specs.Prelude.{List, None, Option, Some, [], false, refl, true, ℕ, ◌++◌, ◌<◌, ◌∷◌, ◌≡◌, ◌≢◌}
use Rattle.argus_values.specs.{Answer.{PlainAnswer, body, done, flag, num, signal, val}, Value.PlainValue}
use Rattle.argus_values.specs.{ContentSpelling.content_spelling, Spelling.spelling}
use Rattle.argus_values.specs.Value as value
use Rattle.argus_journal.specs.{Call.PlainCall, Reply.{PlainReply, answered, begun, object, refused}}
use Rattle.argus_journal.specs.{Folding.{fold, next_entry_number}, declared.limits.TheConstants.MAX_FIRST_ENTRY}
use Rattle.argus_journal.specs.{Opening.opening_at, JournalView.{JournalView, after, journal_view_coded, reply_to}}
use Rattle.argus_guardian.specs.{AbortingLive.{IsPartlyAborted, after_aborts, live_topactions}, JournalText.no_journal}
use Rattle.argus_guardian.specs.Checkpoint.{after_checkpoint, is_quiet}
use Rattle.argus_embed.specs.declared.outcome.Outcome.{Outcome}
use Rattle.argus_embed.specs.declared.outcome.Outcome.TheVariants as outcome

-- the journal, the text that is kept, and the journal of which a guardian is to be made
pub record EmbeddedState : Type 0 where
  pub journal : JournalView
  pub text : Option (List ℕ)
  pub taken : JournalView

-- all three are stored
abbrev pub embedded_state_coded : Coded EmbeddedState
embedded_state_coded =
    code_by (JournalView × (Option (List ℕ) × JournalView))
    (coded× journal_view_coded (coded× (coded_option (coded_list coded_ℕ)) journal_view_coded))
    (λ s. (s.journal, (s.text, s.taken)))
    (λ p. record { journal = p.0; text = p.1.0; taken = p.1.1 }) (λ _. refl)

-- without objects, actions, entries, a text, and lines taken
abbrev pub empty_state : EmbeddedState
empty_state = record { journal = no_journal; text = None; taken = no_journal }

-- the written form of a value that isn't a number: of all but integers and truth values
abbrev pub value_text : PlainValue → Option (List ℕ)
value_text value.null = Some (spelling value.null)
value_text (value.bool truth) = None
value_text (value.int n) = None
value_text (value.text bytes) = Some (spelling (value.text bytes))
value_text (value.atomic o) = Some (spelling (value.atomic o))
value_text (value.sequence values) = Some (spelling (value.sequence values))
value_text (value.fields values) = Some (spelling (value.fields values))
value_text (value.choice tag v) = Some (spelling (value.choice tag v))

-- the written form of an answer that is a content, or such a value
abbrev pub answer_text : PlainAnswer → Option (List ℕ)
answer_text (val v) = value_text v
answer_text (body c) = Some (content_spelling c)
answer_text done = None
answer_text (num n) = None
answer_text (flag truth) = None
answer_text (signal s) = None

-- the text that belongs to a reply, if any
abbrev pub reply_text : PlainReply → Option (List ℕ)
reply_text (answered a) = answer_text a
reply_text (object o) = None
reply_text (begun a) = None
reply_text (refused why) = None

-- a line with the text, if any
abbrev pub text_line : Option (List ℕ) → List ℕ
text_line (Some text) = text ++ 10 ∷ []
text_line None = []

-- a line for each reply that has a text
abbrev pub reply_lines : List PlainReply → List ℕ
reply_lines replies = flat_map (λ reply. text_line (reply_text reply)) replies

-- the same with the text of this reply kept
abbrev pub with_reply : EmbeddedState → PlainReply → EmbeddedState
with_reply state reply = record state { text = reply_text reply }

-- after a call: the journal has it with its reply, whose text is kept
abbrev pub after_call : EmbeddedState → PlainCall → EmbeddedState
after_call state call = record state {
  journal = after state.journal call;
  text = reply_text (reply_to state.journal call);
}

-- an action is live
abbrev pub IsBusy : EmbeddedState → Type 0
IsBusy state = is_quiet state.journal ≡ false

-- none is live, and the next entry's number is past the greatest that a first entry may have
abbrev pub IsFull : EmbeddedState → Type 0
IsFull state =
    (is_quiet state.journal ≡ true)
    × (MAX_FIRST_ENTRY < next_entry_number state.journal.opening state.journal.entries)

-- the same with the journal's entries folded into its opening
abbrev pub after_fold : EmbeddedState → EmbeddedState
after_fold state = record state { journal = after_checkpoint state.journal }

-- the journal that starts over: the objects with their bases, the number of the next entry, and
-- actions from 0 on
abbrev pub renewed : JournalView → JournalView
renewed journal = record {
  opening = opening_at (fold journal.opening journal.entries).objects 0
      (next_entry_number journal.opening journal.entries);
  entries = [];
}

-- the same with the journal started over
abbrev pub after_renewal : EmbeddedState → EmbeddedState
after_renewal state = record state { journal = renewed state.journal }

-- the same with all live actions aborted
abbrev pub after_abort_live : EmbeddedState → EmbeddedState
after_abort_live state =
    record state { journal = after_aborts state.journal (live_topactions state.journal) }

-- the same with some of them aborted, from the first topaction on, and others still live
abbrev pub IsAbortedInPart : EmbeddedState → EmbeddedState → Type 0
IsAbortedInPart old new =
    IsPartlyAborted old.journal new.journal × (live_topactions new.journal ≢ [])
    × (new.text ≡ old.text) × (new.taken ≡ old.taken)

-- the outcome that a value is: an integer is a number, a truth value a flag
abbrev pub value_outcome : PlainValue → Outcome
value_outcome value.null = outcome.Value
value_outcome (value.bool truth) = outcome.Flag truth
value_outcome (value.int n) = outcome.Number n
value_outcome (value.text bytes) = outcome.Value
value_outcome (value.atomic o) = outcome.Value
value_outcome (value.sequence values) = outcome.Value
value_outcome (value.fields values) = outcome.Value
value_outcome (value.choice tag v) = outcome.Value

-- the outcome that an operation's answer is
abbrev pub answer_outcome : PlainAnswer → Outcome
answer_outcome done = outcome.Done
answer_outcome (val v) = value_outcome v
answer_outcome (num n) = outcome.Number n
answer_outcome (flag truth) = outcome.Flag truth
answer_outcome (body c) = outcome.Content
answer_outcome (signal s) = outcome.Signal s

-- the outcome that a reply is
abbrev pub outcome_of : PlainReply → Outcome
outcome_of (object o) = outcome.Object o
outcome_of (begun a) = outcome.Action a
outcome_of (answered a) = answer_outcome a
outcome_of (refused why) = outcome.Refused why
