-- When a content fits a shape, and when an operation suits one.
use Rattle.std.specs.Prelude.{ℕ, Bool, true, false, ◌&&◌, nat_lt, length}
use Rattle.argus_contents.specs.{Value.{PlainValue, listed}, Typing.{is_typed, all_typed, each_typed, is_typed_at}}
use Rattle.argus_contents.specs.{Ty.PlainFields, Shape.{PlainShape, names_of}, Change.{change_tag, touch}}
use Rattle.argus_contents.specs.{Content.{PlainContent, arr, is_within, rec, var}, declared.query.Query.Query}
use Rattle.argus_contents.specs.Change.{PlainChange, create, set_field, store, addh, addl, remh, reml, set_low, trim}
use Rattle.argus_contents.specs.declared.query.Query.TheVariants.{Whole, Field, Low, High, Size, Fetch, Bottom, Top}
use Rattle.argus_contents.specs.declared.query.Query.TheVariants.{IsTag, TagValue}
use Rattle.argus_contents.specs.Shape as shape

-- the content is of the shape's kind, its parts are of their types, and an array keeps the limits
abbrev pub is_fitting : PlainShape → ℕ → PlainContent → Bool
is_fitting (shape.rec fs) n (rec vs) = each_typed fs n (listed vs)
is_fitting (shape.arr t) n (arr low vs) = is_within low (length vs) && all_typed t n (listed vs)
is_fitting (shape.var fs) n (var t v) = is_typed_at fs t n v
is_fitting (shape.rec fs) n (arr low vs) = false
is_fitting (shape.rec fs) n (var t v) = false
is_fitting (shape.arr x) n (rec vs) = false
is_fitting (shape.arr x) n (var t v) = false
is_fitting (shape.var fs) n (rec vs) = false
is_fitting (shape.var fs) n (arr low vs) = false

-- there is a field or a tag with this number
abbrev pub has_number : PlainFields → ℕ → Bool
has_number fs i = nat_lt i (length (names_of fs))

-- the shape is an array's
abbrev pub is_array : PlainShape → Bool
is_array (shape.rec fs) = false
is_array (shape.arr x) = true
is_array (shape.var fs) = false

-- the shape is a record's, with a field of this number
abbrev pub has_field : PlainShape → ℕ → Bool
has_field (shape.rec fs) i = has_number fs i
has_field (shape.arr x) i = false
has_field (shape.var fs) i = false

-- the shape is a variant's, with a tag of this number
abbrev pub has_tag : PlainShape → ℕ → Bool
has_tag (shape.rec fs) t = false
has_tag (shape.arr x) t = false
has_tag (shape.var fs) t = has_number fs t

-- the query is one of the shape's kind, and its field or tag is there
abbrev pub query_suits : PlainShape → Query → Bool
query_suits s Whole = true
query_suits s (Field i) = has_field s i
query_suits s Low = is_array s
query_suits s High = is_array s
query_suits s Size = is_array s
query_suits s (Fetch i) = is_array s
query_suits s Bottom = is_array s
query_suits s Top = is_array s
query_suits s (IsTag t) = has_tag s t
query_suits s (TagValue t) = has_tag s t

-- the shape is a record's, and the value is of the type of the field with this number
abbrev pub field_suits : PlainShape → ℕ → ℕ → PlainValue → Bool
field_suits (shape.rec fs) n i v = is_typed_at fs i n v
field_suits (shape.arr x) n i v = false
field_suits (shape.var fs) n i v = false

-- the shape is an array's, and the value is of its type
abbrev pub item_suits : PlainShape → ℕ → PlainValue → Bool
item_suits (shape.rec fs) n v = false
item_suits (shape.arr x) n v = is_typed x n v
item_suits (shape.var fs) n v = false

-- the shape is a variant's, and the value is of the type of the tag with this number
abbrev pub tag_suits : PlainShape → ℕ → ℕ → PlainValue → Bool
tag_suits (shape.rec fs) n t v = false
tag_suits (shape.arr x) n t v = false
tag_suits (shape.var fs) n t v = is_typed_at fs t n v

-- the change is one of the shape's kind, its field or tag is there, and its value or content fits
abbrev pub change_suits : PlainShape → ℕ → PlainChange → Bool
change_suits s n touch = true
change_suits s n (create c) = is_fitting s n c
change_suits s n (set_field i v) = field_suits s n i v
change_suits s n (store i v) = item_suits s n v
change_suits s n (addh v) = item_suits s n v
change_suits s n (addl v) = item_suits s n v
change_suits s n remh = is_array s
change_suits s n reml = is_array s
change_suits s n (set_low i) = is_array s
change_suits s n (trim from count) = is_array s
change_suits s n (change_tag t v) = tag_suits s n t v
