-- The answer to a query, by cases of the operation and the content.
use Rattle.std.specs.Prelude.{ℕ, ℤ, pos, ◌-◌, ◌==◌, if◌then◌else◌, List, length, slice_get, Option, Some, None}
use Rattle.std.specs.Option.{option_and_then}
use Rattle.argus_contents.specs.{Value.PlainValue, Content.{PlainContent, rec, arr, var}, Place.{place_of, high_of}}
use Rattle.argus_contents.specs.Answer.{PlainAnswer, num, flag, body, val, signal, value_or}
use Rattle.argus_contents.specs.declared.signal.Signal.TheVariants.{Absent, Bounds, WrongTag}
use Rattle.argus_contents.specs.{declared.query.Query.Query, declared.query.Query.TheVariants.{IsTag, TagValue}}
use Rattle.argus_contents.specs.declared.query.Query.TheVariants.{Whole, Field, Low, High, Size, Fetch, Bottom, Top}

-- the answer to a query of a record
abbrev pub record_reply : Query → List PlainValue → PlainAnswer
record_reply Whole vs = body (rec vs)
record_reply (Field i) vs = value_or Absent (slice_get vs i)
record_reply Low vs = signal Absent
record_reply High vs = signal Absent
record_reply Size vs = signal Absent
record_reply (Fetch i) vs = signal Absent
record_reply Bottom vs = signal Absent
record_reply Top vs = signal Absent
record_reply (IsTag t) vs = signal Absent
record_reply (TagValue t) vs = signal Absent

-- the answer to a query of an array
abbrev pub array_reply : Query → ℤ → List PlainValue → PlainAnswer
array_reply Low low vs = num low
array_reply High low vs = num (high_of low (length vs))
array_reply Size low vs = num (pos (length vs))
array_reply (Fetch i) low vs =
    value_or Bounds (option_and_then (slice_get vs) (place_of low (length vs) i))
array_reply Bottom low vs = value_or Bounds (slice_get vs 0)
array_reply Top low vs = value_or Bounds (slice_get vs (length vs - 1))
array_reply Whole low vs = body (arr low vs)
array_reply (Field i) low vs = signal Absent
array_reply (IsTag t) low vs = signal Absent
array_reply (TagValue t) low vs = signal Absent

-- the answer to a query of a variant
abbrev pub variant_reply : Query → ℕ → PlainValue → PlainAnswer
variant_reply (IsTag t) tag v = flag (t == tag)
variant_reply (TagValue t) tag v = if t == tag then val v else signal WrongTag
variant_reply Whole tag v = body (var tag v)
variant_reply (Field i) tag v = signal Absent
variant_reply Low tag v = signal Absent
variant_reply High tag v = signal Absent
variant_reply Size tag v = signal Absent
variant_reply (Fetch i) tag v = signal Absent
variant_reply Bottom tag v = signal Absent
variant_reply Top tag v = signal Absent

-- the answer to a query; an absent content and an operation of another kind signal absent
abbrev pub reply : Query → Option PlainContent → PlainAnswer
reply q None = signal Absent
reply q (Some (rec vs)) = record_reply q vs
reply q (Some (arr low vs)) = array_reply q low vs
reply q (Some (var tag v)) = variant_reply q tag v
