-- The answer to a question, by the journal.
use Rattle.std.specs.{Fmt.decimal, List.{flat_map, range_with_len}, Option.option_map}
use Rattle.std.specs.Prelude.{List, None, Option, Some, [], codes, map, pos, true, ℕ, ◌++◌, ◌∷◌, ◌≡◌, ◌≢◌, ◌≤◌}
use Rattle.argus_actions.specs.declared.status.Status.{Status}
use Rattle.argus_values.specs.{Content.PlainContent, ShapeSpelling.shape_spelling}
use Rattle.argus_journal.specs.{Call.{test_read, test_write}, EntrySpelling.entry_spelling, Events.says_yes}
use Rattle.argus_journal.specs.{Folding.next_entry_number, Journal.entry_at, Objects.{declared, shape_of}}
use Rattle.argus_journal.specs.JournalFacts.{base_of, is_live_in, next_action_number, readers_of, versions_of}
use Rattle.argus_journal.specs.JournalView.{JournalView, reply_to}
use Rattle.argus_guardian.specs.{Objects.where_declared, Statuses.{NoneLiveBetween, NoneLiveFrom, status_in}}
use Rattle.argus_guardian.specs.{Listing.listing_of, OpeningLanguages.content_text}
use Rattle.argus_guardian.specs.listings_declared.listing.Listing.TheVariants.{Audit, Bases, Journal, Stacks}
use Rattle.argus_embed.specs.{Codes.{as_number, status_code}, Embedded.EmbeddedState, declared.outcome.Outcome.Outcome}
use Rattle.argus_embed.specs.{declared.embed_error.EmbedError.EmbedError, declared.question.Question.Question}
use Rattle.argus_embed.specs.declared.embed_error.EmbedError.TheVariants as error
use Rattle.argus_embed.specs.declared.outcome.Outcome.TheVariants as outcome
use Rattle.argus_embed.specs.declared.question.Question.TheVariants as question

-- the numbers stand for the question
abbrev pub Asks : ℕ → ℕ → ℕ → ℕ → Question → Type 0
Asks kind a o n (question.CanRead x i) = (kind ≡ 0) × (x.0 ≡ a) × (i.0 ≡ o)
Asks kind a o n (question.CanWrite x i) = (kind ≡ 1) × (x.0 ≡ a) × (i.0 ≡ o)
Asks kind a o n question.Objects = kind ≡ 2
Asks kind a o n question.Actions = kind ≡ 3
Asks kind a o n question.Entries = kind ≡ 4
Asks kind a o n (question.Base i) = (kind ≡ 5) × (i.0 ≡ o)
Asks kind a o n (question.Readers i) = (kind ≡ 6) × (i.0 ≡ o)
Asks kind a o n (question.Versions i) = (kind ≡ 7) × (i.0 ≡ o)
Asks kind a o n (question.Entry at) = (kind ≡ 8) × (at ≡ n)
Asks kind a o n (question.List Bases) = kind ≡ 9
Asks kind a o n (question.List Stacks) = kind ≡ 10
Asks kind a o n (question.List Journal) = kind ≡ 11
Asks kind a o n (question.List Audit) = kind ≡ 12
Asks kind a o n (question.Shape i) = (kind ≡ 13) × (i.0 ≡ o)
Asks kind a o n (question.Status x) = (kind ≡ 14) × (x.0 ≡ a)
Asks kind a o n (question.Live from) = (kind ≡ 15) × (from ≡ a)
Asks kind a o n question.FirstEntry = kind ≡ 16

-- the line of an action
abbrev pub action_line : ℕ → List ℕ
action_line a = codes "a" ++ decimal a ++ 10 ∷ []

-- the line of an action with what it sees
abbrev pub seen_line : ℕ × Option PlainContent → List ℕ
seen_line v = codes "a" ++ decimal v.0 ++ codes " " ++ content_text v.1 ++ 10 ∷ []

-- a line for each action
abbrev pub action_lines : List ℕ → List ℕ
action_lines actions = flat_map action_line actions

-- a line for each version
abbrev pub seen_lines : List (ℕ × Option PlainContent) → List ℕ
seen_lines versions = flat_map seen_line versions

-- the name under which an object is listed
abbrev pub object_name : ℕ → List ℕ
object_name o = codes "o" ++ decimal o

-- the names of this many objects
abbrev pub object_names : ℕ → List (List ℕ)
object_names count = map object_name (range_with_len 0 count)

-- the text that answers a question, if a text does
abbrev pub text_to : JournalView → Question → Option (List ℕ)
text_to journal (question.Base o) =
    option_map content_text (where_declared journal o.0
    (base_of journal.opening journal.entries o.0))
text_to journal (question.Readers o) =
    option_map action_lines (where_declared journal o.0
    (readers_of journal.opening journal.entries o.0))
text_to journal (question.Versions o) =
    option_map seen_lines (where_declared journal o.0
    (versions_of journal.opening journal.entries o.0))
text_to journal (question.Entry at) =
    option_map (entry_spelling at) (entry_at journal.opening journal.entries at)
text_to journal (question.List listing) =
    Some (listing_of listing (object_names (declared journal.opening journal.entries)) journal)
text_to journal (question.CanRead a o) = None
text_to journal (question.CanWrite a o) = None
text_to journal question.Objects = None
text_to journal question.Actions = None
text_to journal question.Entries = None
text_to journal (question.Shape o) =
    option_map shape_spelling (shape_of journal.opening journal.entries o.0)
text_to journal (question.Status a) = None
text_to journal (question.Live from) = None
text_to journal question.FirstEntry = None

-- the same with this text kept
abbrev pub with_text : EmbeddedState → List ℕ → EmbeddedState
with_text state text = record state { text = Some text }

-- the answer is a text, which is there and is kept
abbrev pub IsText : Option (List ℕ) → EmbeddedState → EmbeddedState → Outcome → Type 0
IsText (Some text) old new told = (told ≡ outcome.Text) × (new ≡ with_text old text)
IsText None old new told = ⊥

-- the answer is this, and nothing has changed
abbrev pub IsPlain : Outcome → EmbeddedState → EmbeddedState → Outcome → Type 0
IsPlain expected old new told = (told ≡ expected) × (new ≡ old)

-- the answer is the number of the action's status, and the action was begun
abbrev pub IsStatus : Option Status → Outcome → Type 0
IsStatus (Some status) told = told ≡ outcome.Number (status_code status)
IsStatus None told = ⊥

-- the answer is the first live action from this number on
abbrev pub IsFirstLive : JournalView → ℕ → Outcome → Type 0
IsFirstLive journal from told =
    (a : ℕ) × (told ≡ outcome.Action a) × (from ≤ a)
    × (is_live_in journal.opening journal.entries a ≡ true) × NoneLiveBetween journal from a

-- what answers the question, by the journal, and what is kept of it
abbrev pub IsAnswerTo : Question → EmbeddedState → EmbeddedState → Outcome → Type 0
IsAnswerTo (question.CanRead a o) old new told =
    IsPlain (outcome.Flag (says_yes (reply_to old.journal (test_read a.0 o.0)))) old new told
IsAnswerTo (question.CanWrite a o) old new told =
    IsPlain (outcome.Flag (says_yes (reply_to old.journal (test_write a.0 o.0)))) old new told
IsAnswerTo question.Objects old new told =
    IsPlain (outcome.Number (pos (declared old.journal.opening old.journal.entries))) old new told
IsAnswerTo question.Actions old new told =
    IsPlain (outcome.Number (pos (next_action_number old.journal.opening old.journal.entries))) old
    new told
IsAnswerTo question.Entries old new told =
    IsPlain (outcome.Number (as_number
    (next_entry_number old.journal.opening old.journal.entries))) old new told
IsAnswerTo (question.Base o) old new told =
    IsText (text_to old.journal (question.Base o)) old new told
IsAnswerTo (question.Readers o) old new told =
    IsText (text_to old.journal (question.Readers o)) old new told
IsAnswerTo (question.Versions o) old new told =
    IsText (text_to old.journal (question.Versions o)) old new told
IsAnswerTo (question.Entry at) old new told =
    IsText (text_to old.journal (question.Entry at)) old new told
IsAnswerTo (question.List listing) old new told =
    IsText (text_to old.journal (question.List listing)) old new told
IsAnswerTo (question.Shape o) old new told =
    IsText (text_to old.journal (question.Shape o)) old new told
IsAnswerTo (question.Status a) old new told =
    IsStatus (status_in old.journal a.0) told × (new ≡ old)
IsAnswerTo (question.Live from) old new told = IsFirstLive old.journal from told × (new ≡ old)
IsAnswerTo question.FirstEntry old new told =
    IsPlain (outcome.Number (as_number old.journal.opening.first_entry)) old new told

-- what it asks about isn't there: the object isn't declared, the journal doesn't have the entry,
-- the action wasn't begun, or none from the number on is live
abbrev pub HasNothing : JournalView → Question → Type 0
HasNothing journal (question.CanRead a o) = ⊥
HasNothing journal (question.CanWrite a o) = ⊥
HasNothing journal question.Objects = ⊥
HasNothing journal question.Actions = ⊥
HasNothing journal question.Entries = ⊥
HasNothing journal (question.Base o) = text_to journal (question.Base o) ≡ None
HasNothing journal (question.Readers o) = text_to journal (question.Readers o) ≡ None
HasNothing journal (question.Versions o) = text_to journal (question.Versions o) ≡ None
HasNothing journal (question.Entry at) = text_to journal (question.Entry at) ≡ None
HasNothing journal (question.List listing) = ⊥
HasNothing journal (question.Shape o) = text_to journal (question.Shape o) ≡ None
HasNothing journal (question.Status a) = status_in journal a.0 ≡ None
HasNothing journal (question.Live from) = NoneLiveFrom journal from
HasNothing journal question.FirstEntry = ⊥

-- why there is no answer: what it asks about isn't there; or there is a text to answer it, and no memory
-- for the text
abbrev pub IsUnanswered : JournalView → Question → EmbedError → Type 0
IsUnanswered journal question error.NotThere = HasNothing journal question
IsUnanswered journal question error.OutOfMemory = text_to journal question ≢ None
IsUnanswered journal question (error.BadText at) = ⊥
IsUnanswered journal question error.BadShape = ⊥
IsUnanswered journal question error.BadNumber = ⊥
IsUnanswered journal question error.BadKind = ⊥
IsUnanswered journal question error.Busy = ⊥
IsUnanswered journal question error.Full = ⊥
IsUnanswered journal question error.NotUtf8 = ⊥
IsUnanswered journal question error.NotBegun = ⊥
IsUnanswered journal question error.BadDemand = ⊥
