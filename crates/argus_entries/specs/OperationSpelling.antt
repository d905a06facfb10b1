-- The one written form of a query and of a change.
use Rattle.std.specs.{Fmt.{decimal, signed_decimal}, Prelude.{List, codes, ℕ, ◌++◌}}
use Rattle.argus_contents.specs.Change.{PlainChange, addh, addl, change_tag, create, reml, remh, set_field, set_low}
use Rattle.argus_contents.specs.{Change.{store, touch, trim}, declared.query.Query.{Query, TheVariants.{Bottom, Fetch}}}
use Rattle.argus_contents.specs.declared.query.Query.TheVariants.{Field, High, IsTag, Low, Size, TagValue, Top, Whole}
use Rattle.argus_texts.specs.{ContentSpelling.content_spelling, Spelling.spelling}

-- the written form of a query
abbrev pub query_spelling : Query → List ℕ
query_spelling Whole = codes "whole"
query_spelling (Field i) = codes "field " ++ decimal i
query_spelling Low = codes "low"
query_spelling High = codes "high"
query_spelling Size = codes "size"
query_spelling (Fetch i) = codes "fetch " ++ signed_decimal i
query_spelling Bottom = codes "bottom"
query_spelling Top = codes "top"
query_spelling (IsTag t) = codes "is_tag " ++ decimal t
query_spelling (TagValue t) = codes "tag_value " ++ decimal t

-- the written form of a change
abbrev pub change_spelling : PlainChange → List ℕ
change_spelling (create c) = codes "create " ++ content_spelling c
change_spelling (set_field i v) = codes "set_field " ++ decimal i ++ codes " " ++ spelling v
change_spelling (store i v) = codes "store " ++ signed_decimal i ++ codes " " ++ spelling v
change_spelling (addh v) = codes "addh " ++ spelling v
change_spelling (addl v) = codes "addl " ++ spelling v
change_spelling remh = codes "remh"
change_spelling reml = codes "reml"
change_spelling (set_low i) = codes "set_low " ++ signed_decimal i
change_spelling (trim i n) = codes "trim " ++ signed_decimal i ++ codes " " ++ signed_decimal n
change_spelling (change_tag t v) = codes "change_tag " ++ decimal t ++ codes " " ++ spelling v
change_spelling touch = codes "touch"
