-- The two numbers from which a host sees what came of a call: a status, and what goes with it. They
-- are those of the C header.
use Rattle.std.specs.Prelude.{Bool, false, if◌then◌else◌, nat_lt, pos, true, ℕ, ℤ, ◌-◌, ◌^◌}
use Rattle.argus_actions.specs.declared.status.Status.{Status}
use Rattle.argus_actions.specs.declared.status.Status.TheVariants.{Aborted, Committed, Folded, Live}
use Rattle.argus_values.specs.contents_declared.signal.Signal.{Signal}
use Rattle.argus_values.specs.contents_declared.signal.Signal.TheVariants.{Absent, Bounds, Exists, Limits, NegativeSize}
use Rattle.argus_values.specs.contents_declared.signal.Signal.TheVariants.{WrongTag}
use Rattle.argus_journal.specs.entries_declared.refusal.Refusal.{Refusal}
use Rattle.argus_journal.specs.entries_declared.refusal.Refusal.TheVariants.{Conflict, IllTyped, NoAction, NoObject}
use Rattle.argus_journal.specs.entries_declared.refusal.Refusal.TheVariants.{NoSiblings, Over, Suspended, TooDeep}
use Rattle.argus_journal.specs.entries_declared.refusal.Refusal.TheVariants.{TooMany}
use Rattle.argus_embed.specs.{declared.embed_error.EmbedError.EmbedError, declared.outcome.Outcome.Outcome}
use Rattle.argus_embed.specs.declared.text_end.TextEnd.{TextEnd}
use Rattle.argus_embed.specs.declared.embed_error.EmbedError.TheVariants as error
use Rattle.argus_embed.specs.declared.outcome.Outcome.TheVariants as outcome
use Rattle.argus_embed.specs.declared.text_end.TextEnd.TheVariants as text_end

-- a signal's number
abbrev pub signal_code : Signal → ℤ
signal_code Absent = pos 1
signal_code Exists = pos 2
signal_code Bounds = pos 3
signal_code WrongTag = pos 4
signal_code NegativeSize = pos 5
signal_code Limits = pos 6

-- a refusal's number, in the order of checking
abbrev pub refusal_code : Refusal → ℤ
refusal_code NoAction = pos 1
refusal_code Over = pos 2
refusal_code Suspended = pos 3
refusal_code NoObject = pos 4
refusal_code IllTyped = pos 5
refusal_code Conflict = pos 6
refusal_code TooDeep = pos 7
refusal_code TooMany = pos 8
refusal_code NoSiblings = pos 9

-- a number for an action's status
abbrev pub status_code : Status → ℤ
status_code Live = pos 1
status_code Committed = pos 2
status_code Aborted = pos 3
status_code Folded = pos 4

-- 1 for true, 0 for false
abbrev pub flag_code : Bool → ℤ
flag_code true = pos 1
flag_code false = pos 0

-- a number as a signed one of 64 bits; anything greater becomes the greatest of these
abbrev pub as_number : ℕ → ℤ
as_number n = if nat_lt n (2 ^ 63) then pos n else pos (2 ^ 63 - 1)

-- the status and the number of what came of a call
abbrev pub outcome_codes : Outcome → ℕ × ℤ
outcome_codes outcome.Done = (0, pos 0)
outcome_codes (outcome.Object o) = (1, pos o)
outcome_codes (outcome.Action a) = (2, pos a)
outcome_codes (outcome.Number n) = (3, n)
outcome_codes (outcome.Flag truth) = (4, flag_code truth)
outcome_codes outcome.Value = (5, pos 0)
outcome_codes outcome.Content = (6, pos 0)
outcome_codes outcome.Text = (7, pos 0)
outcome_codes (outcome.Signal signal) = (8, signal_code signal)
outcome_codes (outcome.Refused refusal) = (9, refusal_code refusal)

-- the status and the number if no call was made
abbrev pub error_codes : EmbedError → ℕ × ℤ
error_codes error.OutOfMemory = (10, pos 0)
error_codes error.NotUtf8 = (12, pos 0)
error_codes (error.BadText at) = (13, as_number at)
error_codes error.BadShape = (14, pos 0)
error_codes error.BadNumber = (15, pos 0)
error_codes error.BadKind = (16, pos 0)
error_codes error.NotThere = (18, pos 0)
error_codes error.Busy = (19, pos 0)
error_codes error.Full = (20, pos 0)
error_codes error.NotBegun = (23, pos 0)
error_codes error.BadDemand = (24, pos 0)

-- the status and the number if no more lines of a text were taken
abbrev pub text_end_codes : TextEnd → ℕ × ℤ
text_end_codes text_end.Whole = (0, pos 0)
text_end_codes text_end.Torn = (0, pos 0)
text_end_codes text_end.OutOfMemory = (10, pos 0)
text_end_codes (text_end.NoText at) = (12, as_number at)
text_end_codes text_end.NotAnOpening = (25, pos 0)
text_end_codes (text_end.NoLine at) = (26, as_number at)
text_end_codes (text_end.NotNext wanted) = (27, as_number wanted)
text_end_codes text_end.NotSound = (28, pos 0)
text_end_codes text_end.NotTheReply = (29, pos 0)
