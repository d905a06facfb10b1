-- A call that was read of its request, and what comes of it once it is made.
use Rattle.std.specs.{Coded.Coded, Prelude.{List, ℕ, ◌≡◌}}
use Rattle.argus_entries.specs.EntryCode.{call_coded}
use Rattle.argus_journal.specs.{Call.PlainCall, JournalView.reply_to}
use Rattle.argus_embed.specs.{Embedded.{EmbeddedState, after_call, outcome_of}, Requests.{IsRead, Says}}
use Rattle.argus_embed.specs.{declared.outcome.Outcome.Outcome, declared.request.Request.Request}

-- what is read of a request: the call
abbrev pub ParsedState : Type 0
ParsedState = PlainCall

-- it is stored
abbrev pub parsed_state_coded : Coded ParsedState
parsed_state_coded = call_coded

-- the request with its text stands for the call, and its numbers and its text are those of a call
abbrev pub IsParsed : Request → List ℕ → ParsedState → Type 0
IsParsed r text parsed = Says r text parsed × IsRead r text

-- the call was made, and this came of it
abbrev pub IsMadeOf : ParsedState → EmbeddedState → EmbeddedState → Outcome → Type 0
IsMadeOf parsed old new outcome =
    (new ≡ after_call old parsed) × (outcome ≡ outcome_of (reply_to old.journal parsed))
