-- Which call the numbers and the text of a request stand for, and why one stands for none.
use Rattle.std.specs.{Ordering.int_eq, Prelude.{List, int_lt, not, pos, true, ℕ, ℤ, ◌<◌, ◌||◌, ◌≡◌, ◌≤◌, ◌⊎◌}}
use Rattle.argus_values.specs.Change.{PlainChange, addh, addl, change_tag, create, remh, reml, set_field, set_low}
use Rattle.argus_values.specs.{Change.{store, touch, trim}, contents_declared.query.Query.Query, Spelling.spelling}
use Rattle.argus_values.specs.contents_declared.query.Query.TheVariants.{Bottom, Fetch, Field, High, IsTag, Low, Size}
use Rattle.argus_values.specs.{contents_declared.query.Query.TheVariants.{TagValue, Top, Whole}, Value.PlainValue}
use Rattle.argus_values.specs.{ContentSpelling.content_spelling, Fault.{IsContentText, IsFault, IsValueText}}
use Rattle.argus_values.specs.ShapeSpelling.{IsShapeText, shape_spelling}
use Rattle.argus_journal.specs.Call.{PlainCall, abort, abort_others, alter, ask, begin_nested, begin_sub, begin_top}
use Rattle.argus_journal.specs.{Call.{commit, declare, test_read, test_write}, JournalView.reply_to}
use Rattle.argus_values.specs.Value as value
use Rattle.argus_embed.specs.{Embedded.{EmbeddedState, after_call, outcome_of}, declared.outcome.Outcome.Outcome}
use Rattle.argus_embed.specs.{declared.embed_error.EmbedError.EmbedError, declared.request.Request.Request}
use Rattle.argus_embed.specs.declared.kinds.TheConstants.{ABORT, ABORT_OTHERS, ADDH, ADDH_BOOL, ADDH_INT, ADDL}
use Rattle.argus_embed.specs.declared.kinds.TheConstants.{ADDL_BOOL, ADDL_INT, BEGIN_NESTED, BEGIN_SUB, BEGIN_TOP}
use Rattle.argus_embed.specs.declared.kinds.TheConstants.{BOTTOM, CHANGE_TAG, CHANGE_TAG_BOOL, CHANGE_TAG_INT, COMMIT}
use Rattle.argus_embed.specs.declared.kinds.TheConstants.{CREATE, DECLARE, FETCH, FIELD, HIGH, IS_TAG, LOW, REMH, REML}
use Rattle.argus_embed.specs.declared.kinds.TheConstants.{SET_FIELD, SET_FIELD_BOOL, SET_FIELD_INT, SET_LOW, SIZE}
use Rattle.argus_embed.specs.declared.kinds.TheConstants.{STORE, STORE_BOOL, STORE_INT, TAG_VALUE, TEST_READ}
use Rattle.argus_embed.specs.declared.kinds.TheConstants.{TEST_WRITE, TOP, TOUCH, TRIM, WHOLE}
use Rattle.argus_embed.specs.declared.embed_error.EmbedError.TheVariants as error

-- the kind and the first number are those of the query
abbrev pub SaysQuery : ℕ → ℤ → Query → Type 0
SaysQuery kind first Whole = kind ≡ WHOLE
SaysQuery kind first (Field i) = (kind ≡ FIELD) × (first ≡ pos i)
SaysQuery kind first Low = kind ≡ LOW
SaysQuery kind first High = kind ≡ HIGH
SaysQuery kind first Size = kind ≡ SIZE
SaysQuery kind first (Fetch i) = (kind ≡ FETCH) × (first ≡ i)
SaysQuery kind first Bottom = kind ≡ BOTTOM
SaysQuery kind first Top = kind ≡ TOP
SaysQuery kind first (IsTag t) = (kind ≡ IS_TAG) × (first ≡ pos t)
SaysQuery kind first (TagValue t) = (kind ≡ TAG_VALUE) × (first ≡ pos t)

-- a change's value, in the form that one of three kinds says: the text is its written form; or it is
-- an integer, the second number; or it is a truth value, false if that number is 0
abbrev pub SaysValue : ℕ → ℕ → ℕ → ℕ → ℤ → List ℕ → PlainValue → Type 0
SaysValue by_text by_int by_bool kind second text v =
    ((kind ≡ by_text) × (text ≡ spelling v)) ⊎ ((kind ≡ by_int) × (v ≡ value.int second))
    ⊎ ((kind ≡ by_bool) × (v ≡ value.bool (not (int_eq second (pos 0)))))

-- the kind, the numbers and the text are those of the change
abbrev pub SaysChange : ℕ → ℤ → ℤ → List ℕ → PlainChange → Type 0
SaysChange kind first second text (create c) = (kind ≡ CREATE) × (text ≡ content_spelling c)
SaysChange kind first second text (set_field i v) =
    (first ≡ pos i) × SaysValue SET_FIELD SET_FIELD_INT SET_FIELD_BOOL kind second text v
SaysChange kind first second text (store i v) =
    (first ≡ i) × SaysValue STORE STORE_INT STORE_BOOL kind second text v
SaysChange kind first second text (addh v) = SaysValue ADDH ADDH_INT ADDH_BOOL kind second text v
SaysChange kind first second text (addl v) = SaysValue ADDL ADDL_INT ADDL_BOOL kind second text v
SaysChange kind first second text remh = kind ≡ REMH
SaysChange kind first second text reml = kind ≡ REML
SaysChange kind first second text (set_low i) = (kind ≡ SET_LOW) × (first ≡ i)
SaysChange kind first second text (trim i n) = (kind ≡ TRIM) × (first ≡ i) × (second ≡ n)
SaysChange kind first second text (change_tag t v) =
    (first ≡ pos t) × SaysValue CHANGE_TAG CHANGE_TAG_INT CHANGE_TAG_BOOL kind second text v
SaysChange kind first second text touch = kind ≡ TOUCH

-- the request with its text stands for the call
abbrev pub Says : Request → List ℕ → PlainCall → Type 0
Says r text (declare shape) = (r.kind ≡ DECLARE) × (text ≡ shape_spelling shape)
Says r text begin_top = r.kind ≡ BEGIN_TOP
Says r text (begin_sub parent) = (r.kind ≡ BEGIN_SUB) × (r.action ≡ parent)
Says r text (begin_nested creator) = (r.kind ≡ BEGIN_NESTED) × (r.action ≡ creator)
Says r text (commit a) = (r.kind ≡ COMMIT) × (r.action ≡ a)
Says r text (abort a) = (r.kind ≡ ABORT) × (r.action ≡ a)
Says r text (abort_others a) = (r.kind ≡ ABORT_OTHERS) × (r.action ≡ a)
Says r text (test_read a o) = (r.kind ≡ TEST_READ) × (r.action ≡ a) × (r.object ≡ o)
Says r text (test_write a o) = (r.kind ≡ TEST_WRITE) × (r.action ≡ a) × (r.object ≡ o)
Says r text (ask a o query) = (r.action ≡ a) × (r.object ≡ o) × SaysQuery r.kind r.first query
Says r text (alter a o change) =
    (r.action ≡ a) × (r.object ≡ o) × SaysChange r.kind r.first r.second text change

-- it isn't the number of a field or a tag
abbrev pub IsNoPart : ℤ → Type 0
IsNoPart n = (int_lt n (pos 0) || int_lt (pos 255) n) ≡ true

-- a call of this kind takes a field or a tag: field, is_tag, tag_value, set_field and change_tag
abbrev pub TakesPart : ℕ → Type 0
TakesPart kind =
    (kind ≡ FIELD) ⊎ (kind ≡ IS_TAG) ⊎ (kind ≡ TAG_VALUE) ⊎ (kind ≡ SET_FIELD)
    ⊎ (kind ≡ CHANGE_TAG) ⊎ (kind ≡ SET_FIELD_INT) ⊎ (kind ≡ CHANGE_TAG_INT)
    ⊎ (kind ≡ SET_FIELD_BOOL) ⊎ (kind ≡ CHANGE_TAG_BOOL)

-- a call of this kind takes the text of a value: set_field, store, addh, addl and change_tag
abbrev pub TakesValue : ℕ → Type 0
TakesValue kind =
    (kind ≡ SET_FIELD) ⊎ (kind ≡ STORE) ⊎ (kind ≡ ADDH) ⊎ (kind ≡ ADDL) ⊎ (kind ≡ CHANGE_TAG)

-- the call takes a field or a tag, and the first number isn't that of one
abbrev pub LacksPart : Request → Type 0
LacksPart r = TakesPart r.kind × IsNoPart r.first

-- the numbers are those of a call: there is such a kind, and a field or a tag if it takes one
abbrev pub HasNumbers : Request → Type 0
HasNumbers r = (r.kind ≤ CHANGE_TAG_BOOL) × (LacksPart r → ⊥)

-- the text is that of a shape, a content or a value, if the call takes one
pub record HasText (r : Request) (text : List ℕ) : Type 0 where
  pub shape : r.kind ≡ DECLARE → IsShapeText text
  pub content : r.kind ≡ CREATE → IsContentText text
  pub value : TakesValue r.kind → IsValueText text

-- the numbers and the text are those of a call
abbrev pub IsRead : Request → List ℕ → Type 0
IsRead r text = HasNumbers r × HasText r text

-- why the request stands for no call. There is no such kind; the call takes a field or a tag, and
-- its number isn't one; or the text isn't that of a shape for a declaration, of a content for a
-- creation, or of a value for another change that takes one. A number comes before a text: a text
-- is read, and there may be no memory for it, only if the numbers are those of a call
abbrev pub IsUnread : Request → List ℕ → EmbedError → Type 0
IsUnread r text (error.BadText at) =
    HasNumbers r × (((r.kind ≡ CREATE) × IsFault IsContentText text at)
    ⊎ (TakesValue r.kind × IsFault IsValueText text at))
IsUnread r text error.BadShape = (r.kind ≡ DECLARE) × (IsShapeText text → ⊥)
IsUnread r text error.BadNumber = LacksPart r
IsUnread r text error.BadKind = CHANGE_TAG_BOOL < r.kind
IsUnread r text error.OutOfMemory = HasNumbers r
IsUnread r text error.NotThere = ⊥
IsUnread r text error.Busy = ⊥
IsUnread r text error.Full = ⊥
IsUnread r text error.NotUtf8 = ⊥
IsUnread r text error.NotBegun = ⊥
IsUnread r text error.BadDemand = ⊥

-- the call that the request stands for was made, and this came of it
abbrev pub IsCalled : Request → List ℕ → EmbeddedState → EmbeddedState → Outcome → Type 0
IsCalled r text old new outcome =
    (call : PlainCall) × Says r text call × (new ≡ after_call old call)
    × (outcome ≡ outcome_of (reply_to old.journal call))
