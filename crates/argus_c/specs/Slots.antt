-- What an export says of the guardian in a slot, before and after.
use Rattle.std.specs.Prelude.{List, None, Option, Some, drop, length, ℕ, ℤ, ◌*◌, ◌+◌, ◌++◌, ◌<◌, ◌↔◌, ◌≡◌, ◌≢◌, ◌≤◌}
use Rattle.std.specs.Prelude.{◌⊎◌}
use Rattle.argus_embed.specs.{CallEach.AreCalled, Codes.{error_codes, outcome_codes, text_end_codes}}
use Rattle.argus_embed.specs.{JournalLines.{AreLines, HasNoPlace, line_at}, Requests.{IsCalled, IsUnread}}
use Rattle.argus_embed.specs.{Questions.{Asks, HasNothing, IsAnswerTo, text_to}, declared.lines.Lines.Lines}
use Rattle.argus_embed.specs.{Embedded.{EmbeddedState, IsBusy, IsFull}, declared.calls_made.CallsMade.CallsMade}
use Rattle.argus_embed.specs.{Resuming.{IsDropped, IsTextTaken, after_resumption}, declared.list_end.ListEnd.ListEnd}
use Rattle.argus_embed.specs.{declared.embed_error.EmbedError.EmbedError, declared.listed_call.ListedCall.ListedCall}
use Rattle.argus_embed.specs.declared.list_end.ListEnd.TheVariants.{Failed, Unmet, Whole}
use Rattle.argus_embed.specs.{declared.outcome.Outcome.Outcome, declared.question.Question.Question}
use Rattle.argus_embed.specs.{declared.request.Request.Request, declared.text_taken.TextTaken.TextTaken}

-- there was one and there is one, and the relation holds of both
abbrev pub Becomes : Option EmbeddedState → Option EmbeddedState → (EmbeddedState → EmbeddedState
    → Type 0) → Type 0
Becomes (Some old) (Some new) R = R old new
Becomes (Some old) None R = ⊥
Becomes None (Some new) R = ⊥
Becomes None None R = ⊥

-- the request with these numbers
abbrev pub request_of : ℕ → ℕ → ℕ → ℤ → ℤ → Request
request_of kind action object first second =
    record { kind = kind; action = action; object = object; first = first; second = second }

-- the call that the request stands for was made, and its codes are these
abbrev pub IsMade : Request → List ℕ → ℕ × ℤ → EmbeddedState → EmbeddedState → Type 0
IsMade r text codes old new =
    (outcome : Outcome) × IsCalled r text old new outcome × (codes ≡ outcome_codes outcome)

-- the status with which a list of calls ended
abbrev pub end_status : ListEnd → ℕ
end_status Whole = 0
end_status Unmet = 22
end_status (Failed e) = (error_codes e).0

-- this many calls of the list were made, and it has their outcomes; or the slot is closed
abbrev pub IsListAnswered : Option EmbeddedState → Option EmbeddedState → List ListedCall
    → List ListedCall → ℕ → ℕ → Type 0
IsListAnswered (Some old) (Some new) listed after count status =
    (made : CallsMade) × AreCalled listed after old new made × (count ≡ made.count)
    × (status ≡ end_status made.end)
IsListAnswered None None listed after count status = (status ≡ 11) × (after ≡ listed) × (count ≡ 0)
IsListAnswered (Some old) None listed after count status = ⊥
IsListAnswered None (Some new) listed after count status = ⊥

-- the question that the numbers stand for was answered, and its codes are these
abbrev pub IsAnswered : ℕ → ℕ → ℕ → ℕ → ℕ × ℤ → EmbeddedState → EmbeddedState → Type 0
IsAnswered kind a o n codes old new =
    (question : Question) × Asks kind a o n question × ((outcome : Outcome)
    × IsAnswerTo question old new outcome × (codes ≡ outcome_codes outcome))

-- why the call of an open guardian wasn't made, with its codes
abbrev pub IsUncalled : Request → List ℕ → ℕ × ℤ → Type 0
IsUncalled r text codes = (e : EmbedError) × IsUnread r text e × (codes ≡ error_codes e)

-- the guardian doesn't have what the question asks about
abbrev pub IsNotThere : Option EmbeddedState → ℕ → ℕ → ℕ → ℕ → Type 0
IsNotThere None kind a o n = ⊥
IsNotThere (Some state) kind a o n =
    (question : Question) × Asks kind a o n question × HasNothing state.journal question

-- the guardian has a text to answer the question
abbrev pub HasText : Option EmbeddedState → ℕ → ℕ → ℕ → ℕ → Type 0
HasText None kind a o n = ⊥
HasText (Some state) kind a o n =
    (question : Question) × Asks kind a o n question × (text_to state.journal question ≢ None)

-- a text of this size is at the front of the room, whose rest is as it was
abbrev pub IsFront : Option (List ℕ) → ℕ → List ℕ → List ℕ → Type 0
IsFront None size old new = ⊥
IsFront (Some text) size old new = (size ≡ length text) × (new ≡ text ++ drop size old)

-- a text of this size is kept and at the front of the room, whose rest is as it was
abbrev pub IsGiven : Option EmbeddedState → ℕ → List ℕ → List ℕ → Type 0
IsGiven None size old new = ⊥
IsGiven (Some state) size old new = IsFront state.text size old new

-- a text of this size is longer than the room
abbrev pub IsPast : Option (List ℕ) → ℕ → List ℕ → Type 0
IsPast None size room = ⊥
IsPast (Some text) size room = (size ≡ length text) × (length room < size)

-- a text of this size is kept, and is longer than the room
abbrev pub IsTooLong : Option EmbeddedState → ℕ → List ℕ → Type 0
IsTooLong None size room = ⊥
IsTooLong (Some state) size room = IsPast state.text size room

-- whole lines from the entry on are in the room, as many as fit
abbrev pub AreLinesGiven : Option EmbeddedState → ℕ → List ℕ → List ℕ → Lines → Type 0
AreLinesGiven None from old new lines = ⊥
AreLinesGiven (Some state) from old new lines =
    AreLines state.journal from old new lines × (lines.size ≤ length old)

-- the line of the entry has this many bytes, and is longer than the room
abbrev pub IsLineTooLong : Option EmbeddedState → ℕ → List ℕ → ℕ → Type 0
IsLineTooLong None from room size = ⊥
IsLineTooLong (Some state) from room size =
    (size ≡ length (line_at state.journal from)) × (length room < size)

-- the status for a host that asks for lines: 18 exactly if the number isn't in the journal's range;
-- otherwise it has them, there is no memory for them, or the room is too small for the first; or
-- the slot is closed
abbrev pub IsStatusOfLines : Option EmbeddedState → ℕ → ℕ → Type 0
IsStatusOfLines None from status = status ≡ 11
IsStatusOfLines (Some state) from status =
    ((status ≡ 18) ↔ HasNoPlace state.journal from)
    × ((status ≡ 0) ⊎ (status ≡ 10) ⊎ (status ≡ 17) ⊎ (status ≡ 18))

-- the status of a checkpoint, and of a renewal: 19 exactly if an action is live; otherwise 20 exactly if the next
-- entry's number is past the greatest that a first entry may have; otherwise it is made, or there is no memory for it;
-- or the slot is closed
abbrev pub IsStatusOfFold : Option EmbeddedState → ℕ → Type 0
IsStatusOfFold None status = status ≡ 11
IsStatusOfFold (Some state) status =
    ((status ≡ 19) ↔ IsBusy state) × ((status ≡ 20) ↔ IsFull state)
    × ((status ≡ 0) ⊎ (status ≡ 10) ⊎ (status ≡ 19) ⊎ (status ≡ 20))

-- the status for a host that asks for the text: 18 exactly if none is kept; otherwise it has it, there
-- is no memory for it, or it is longer than the room; or the slot is closed
abbrev pub IsStatusOfReply : Option EmbeddedState → ℕ → Type 0
IsStatusOfReply None status = status ≡ 11
IsStatusOfReply (Some state) status =
    ((status ≡ 18) ↔ (state.text ≡ None))
    × ((status ≡ 0) ⊎ (status ≡ 10) ⊎ (status ≡ 17) ⊎ (status ≡ 18))

-- this many bytes and lines of the text were taken, and these are the codes of the end
abbrev pub AreTaken : List ℕ → ℕ → ℕ → ℕ × ℤ → EmbeddedState → EmbeddedState → Type 0
AreTaken text bytes lines codes old new =
    (taken : TextTaken) × IsTextTaken old new text taken × (bytes ≡ taken.bytes)
    × (lines ≡ taken.lines) × (codes ≡ text_end_codes taken.end)

-- the guardian is that of the lines that were taken, except for this many bytes
abbrev pub IsResumed : ℕ → EmbeddedState → EmbeddedState → Type 0
IsResumed dropped old new = (new ≡ after_resumption old) × IsDropped dropped old new

-- the version in one number: two decimal digits for each of its last two
abbrev pub version_number : ℕ
version_number = 10000 * 0 + 100 * 1 + 0
