-- What a change says, and what it does, by cases of the operation and the content.
use Rattle.std.specs.Prelude.{◌≡◌, ℕ, ℤ, Bool, pos, ◌+ℤ◌, ◌-ℤ◌, ◌-◌, int_lt, unsigned_abs, nat_lt, nat_le, ◌||◌}
use Rattle.std.specs.Prelude.{if◌then◌else◌, List, [], ◌∷◌, ◌++◌, length, take, drop, slice_get, slice_set, Option}
use Rattle.std.specs.{Prelude.{Some, None, true, false}, Ordering.int_eq}
use Rattle.argus_contents.specs.{Value.{PlainValue, plain_list, plain_value}, Place.{place_of, high_of}}
use Rattle.argus_contents.specs.Content.{PlainContent, rec, arr, var, plain_content, KeepsLimits}
use Rattle.argus_contents.specs.Answer.{PlainAnswer, done, done_or, plain_answer, val, signal, value_or}
use Rattle.argus_contents.specs.declared.limits.TheConstants.{MIN_BOUND, MAX_BOUND, MAX_ITEMS}
use Rattle.argus_contents.specs.{declared.value.Value.Value, declared.answer.Answer.Answer}
use Rattle.argus_contents.specs.{declared.signal.Signal.Signal, declared.change.Change.Change}
use Rattle.argus_contents.specs.declared.signal.Signal.TheVariants.{Absent, Exists, Bounds, NegativeSize, Limits}
use Rattle.argus_contents.specs.declared.change.Change.TheVariants as change

-- a plain change
pub data PlainChange : Type 0 where
  create : PlainContent → PlainChange
  set_field : ℕ → PlainValue → PlainChange
  store : ℤ → PlainValue → PlainChange
  addh : PlainValue → PlainChange
  addl : PlainValue → PlainChange
  remh : PlainChange
  reml : PlainChange
  set_low : ℤ → PlainChange
  trim : ℤ → ℤ → PlainChange
  change_tag : ℕ → PlainValue → PlainChange
  touch : PlainChange

-- what a change says
abbrev pub plain_change : Change → PlainChange
plain_change (change.Create c) = create (plain_content c.value)
plain_change (change.SetField i v) = set_field i (plain_value v)
plain_change (change.Store i v) = store i (plain_value v)
plain_change (change.Addh v) = addh (plain_value v)
plain_change (change.Addl v) = addl (plain_value v)
plain_change change.Remh = remh
plain_change change.Reml = reml
plain_change (change.SetLow i) = set_low i
plain_change (change.Trim from count) = trim from count
plain_change (change.ChangeTag t v) = change_tag t (plain_value v)
plain_change change.Touch = touch

-- a change may return a value: one that removes an item
abbrev pub gives_value : PlainChange → Bool
gives_value (create c) = false
gives_value (set_field i v) = false
gives_value (store i v) = false
gives_value (addh v) = false
gives_value (addl v) = false
gives_value remh = true
gives_value reml = true
gives_value (set_low i) = false
gives_value (trim from count) = false
gives_value (change_tag t v) = false
gives_value touch = false

-- the content after a change, and its answer
abbrev pub Outcome : Type 0
Outcome = Option PlainContent × PlainAnswer

-- a signal leaves the content unchanged
abbrev pub signals : Signal → PlainContent → Outcome
signals s c = (Some c, signal s)

-- what a change of the field at i does
abbrev pub set_in : ℕ → PlainValue → List PlainValue → Outcome
set_in i v vs =
    if nat_lt i (length vs) then (Some (rec (slice_set vs i v)), done) else signals Absent (rec vs)

-- what a store at a place does; `None` is out of bounds
abbrev pub stored_at : Option ℕ → PlainValue → ℤ → List PlainValue → Outcome
stored_at None v low vs = signals Bounds (arr low vs)
stored_at (Some place) v low vs = (Some (arr low (slice_set vs place v)), done)

-- no value can be added at the high end
abbrev pub is_full_high : ℤ → ℕ → Bool
is_full_high low size = nat_le MAX_ITEMS size || int_lt MAX_BOUND (low +ℤ pos size)

-- no value can be added at the low end
abbrev pub is_full_low : ℤ → ℕ → Bool
is_full_low low size = nat_le MAX_ITEMS size || int_eq low MIN_BOUND

-- the first item leaves
abbrev pub removed_low : ℤ → List PlainValue → Outcome
removed_low low [] = signals Bounds (arr low [])
removed_low low (v ∷ vs) =
    if int_eq low MAX_BOUND then signals Limits (arr low (v ∷ vs))
    else (Some (arr (low +ℤ pos 1) vs), val v)

-- no array of this many items may begin at i
abbrev pub is_out_of_limits : ℤ → ℕ → Bool
is_out_of_limits i size =
    int_lt i MIN_BOUND || int_lt MAX_BOUND i || int_lt MAX_BOUND (high_of i size)

-- why an array of this low bound and size can't be trimmed to an index and a count, if it can't
abbrev pub trim_refusal : ℤ → ℤ → ℤ → ℕ → Option Signal
trim_refusal from count low size =
    if int_lt count (pos 0) then Some NegativeSize else
    (if int_lt from low || int_lt (low +ℤ pos size) from then Some Bounds else
    (if int_lt MAX_BOUND from then Some Limits else None))

-- unless that is refused, the items from the index on are kept, at most this many of them
abbrev pub trimmed : Option Signal → ℤ → ℤ → ℤ → List PlainValue → Outcome
trimmed (Some why) from count low vs = signals why (arr low vs)
trimmed None from count low vs =
    (Some (arr from (take (unsigned_abs count) (drop (unsigned_abs (from -ℤ low)) vs))), done)

-- what a change does to an array
abbrev pub array_outcome : PlainChange → ℤ → List PlainValue → Outcome
array_outcome (create c) low vs = signals Exists (arr low vs)
array_outcome touch low vs = (Some (arr low vs), done)
array_outcome (store i v) low vs = stored_at (place_of low (length vs) i) v low vs
array_outcome (addh v) low vs =
    if is_full_high low (length vs) then signals Limits (arr low vs)
    else (Some (arr low (vs ++ v ∷ [])), done)
array_outcome (addl v) low vs =
    if is_full_low low (length vs) then signals Limits (arr low vs)
    else (Some (arr (low -ℤ pos 1) (v ∷ vs)), done)
array_outcome remh low vs =
    (Some (arr low (take (length vs - 1) vs)), value_or Bounds (slice_get vs (length vs - 1)))
array_outcome reml low vs = removed_low low vs
array_outcome (set_low i) low vs =
    if is_out_of_limits i (length vs) then signals Limits (arr low vs) else (Some (arr i vs), done)
array_outcome (trim from count) low vs =
    trimmed (trim_refusal from count low (length vs)) from count low vs
array_outcome (set_field field v) low vs = signals Absent (arr low vs)
array_outcome (change_tag tag v) low vs = signals Absent (arr low vs)

-- the change of an array returns this answer, and leaves this low bound and these items of those
abbrev pub Leaves : PlainChange → ℤ → List Value → ℤ → List Value → Answer → Type 0
Leaves c low vs left_low left answer =
    (Some (arr left_low (plain_list left)), plain_answer answer)
    ≡ array_outcome c low (plain_list vs)

-- the same, for a change that returns done or a signal
abbrev pub LeavesOr : PlainChange → ℤ → List Value → ℤ → List Value → Option Signal → Type 0
LeavesOr c low vs left_low left refusal =
    (Some (arr left_low (plain_list left)), done_or refusal) ≡ array_outcome c low (plain_list vs)

-- what a change does to a record
abbrev pub record_outcome : PlainChange → List PlainValue → Outcome
record_outcome (create c) vs = signals Exists (rec vs)
record_outcome touch vs = (Some (rec vs), done)
record_outcome (set_field i v) vs = set_in i v vs
record_outcome (store i v) vs = signals Absent (rec vs)
record_outcome (addh v) vs = signals Absent (rec vs)
record_outcome (addl v) vs = signals Absent (rec vs)
record_outcome remh vs = signals Absent (rec vs)
record_outcome reml vs = signals Absent (rec vs)
record_outcome (set_low i) vs = signals Absent (rec vs)
record_outcome (trim from count) vs = signals Absent (rec vs)
record_outcome (change_tag t v) vs = signals Absent (rec vs)

-- what a change does to a variant
abbrev pub variant_outcome : PlainChange → ℕ → PlainValue → Outcome
variant_outcome (create c) t v = signals Exists (var t v)
variant_outcome touch t v = (Some (var t v), done)
variant_outcome (change_tag u w) t v = (Some (var u w), done)
variant_outcome (set_field i w) t v = signals Absent (var t v)
variant_outcome (store i w) t v = signals Absent (var t v)
variant_outcome (addh w) t v = signals Absent (var t v)
variant_outcome (addl w) t v = signals Absent (var t v)
variant_outcome remh t v = signals Absent (var t v)
variant_outcome reml t v = signals Absent (var t v)
variant_outcome (set_low i) t v = signals Absent (var t v)
variant_outcome (trim from count) t v = signals Absent (var t v)

-- what a change does if there is no content
abbrev pub absent_outcome : PlainChange → Outcome
absent_outcome (create c) = (Some c, done)
absent_outcome touch = (None, done)
absent_outcome (set_field i v) = (None, signal Absent)
absent_outcome (store i v) = (None, signal Absent)
absent_outcome (addh v) = (None, signal Absent)
absent_outcome (addl v) = (None, signal Absent)
absent_outcome remh = (None, signal Absent)
absent_outcome reml = (None, signal Absent)
absent_outcome (set_low i) = (None, signal Absent)
absent_outcome (trim from count) = (None, signal Absent)
absent_outcome (change_tag t v) = (None, signal Absent)

-- what a change does; an operation of another kind than the content signals absent
abbrev pub outcome : PlainChange → Option PlainContent → Outcome
outcome c None = absent_outcome c
outcome c (Some (rec vs)) = record_outcome c vs
outcome c (Some (arr low vs)) = array_outcome c low vs
outcome c (Some (var t v)) = variant_outcome c t v

-- the content that the change creates keeps the limits, if it creates one
abbrev pub CreatesWithin : PlainChange → Type 0
CreatesWithin (create c) = KeepsLimits (Some c)
CreatesWithin (set_field i v) = Unit {0}
CreatesWithin (store i v) = Unit {0}
CreatesWithin (addh v) = Unit {0}
CreatesWithin (addl v) = Unit {0}
CreatesWithin remh = Unit {0}
CreatesWithin reml = Unit {0}
CreatesWithin (set_low i) = Unit {0}
CreatesWithin (trim from count) = Unit {0}
CreatesWithin (change_tag t v) = Unit {0}
CreatesWithin touch = Unit {0}
