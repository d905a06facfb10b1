-- The languages of queries and changes, and of the readers of some of them.
use Rattle.std.specs.Prelude.{ℕ, List, codes}
use Rattle.argus_contents.specs.{Change.PlainChange, declared.limits.TheConstants.MAX_VALUE_DEPTH}
use Rattle.argus_contents.specs.declared.query.Query.{Query}
use Rattle.argus_contents.specs.Change as change
use Rattle.argus_contents.specs.declared.query.Query.TheVariants as query
use Rattle.argus_texts.specs.Language.{Language}
use Rattle.argus_texts.specs.Languages.{Contents, Ints, NotDigit, Numbers, Pairs, ValueEnds, Values, Word}
use Rattle.argus_entries.specs.{Laws.{ChangeWithin, QueryWithin}, OperationSpelling.{change_spelling, query_spelling}}
use Rattle.argus_reading.specs.Combined.{Either, Worded}

-- a blank
abbrev pub blank : ℕ
blank = 32

-- numbers of fields and tags
abbrev pub Bytes : Language
Bytes = Numbers 0 255

-- numbers of actions and objects
abbrev pub Ids : Language
Ids = Numbers 0 4294967295

-- a word, a number, a blank and a value
abbrev pub ByteAndValue : List ℕ → Language
ByteAndValue word = Pairs (Worded word Bytes) blank (Values MAX_VALUE_DEPTH)

-- a word, an integer, a blank and a value
abbrev pub IntAndValue : List ℕ → Language
IntAndValue word = Pairs (Worded word Ints) blank (Values MAX_VALUE_DEPTH)

-- a word, an integer, a blank and an integer
abbrev pub TwoInts : List ℕ → Language
TwoInts word = Pairs (Worded word Ints) blank Ints

-- QUERIES

-- what may come after a query
abbrev pub QueryEnds : Query → List ℕ → Type 0
QueryEnds (query.Field i) rest = NotDigit rest
QueryEnds (query.Fetch i) rest = NotDigit rest
QueryEnds (query.IsTag t) rest = NotDigit rest
QueryEnds (query.TagValue t) rest = NotDigit rest
QueryEnds q rest = Unit {0}

-- queries whose numbers are in range
abbrev pub Queries : Language
Queries = record { Thing = Query; Good = QueryWithin; form = query_spelling; Ends = QueryEnds }

-- the words of queries that are one word
abbrev pub WordQueries : Language
WordQueries =
    Either (Word (codes "whole")) (Either (Word (codes "low")) (Either (Word (codes "high"))
    (Either (Word (codes "size")) (Either (Word (codes "bottom")) (Word (codes "top"))))))

-- the parts of queries that have a number
abbrev pub NumberQueries : Language
NumberQueries = Either (Worded (codes "field ") Bytes) (Either (Worded (codes "fetch ") Ints)
    (Either (Worded (codes "is_tag ") Bytes) (Worded (codes "tag_value ") Bytes)))

-- what queries are read from
abbrev pub QueryParts : Language
QueryParts = Either WordQueries NumberQueries

-- CHANGES

-- what may come after a change
abbrev pub ChangeEnds : PlainChange → List ℕ → Type 0
ChangeEnds (change.set_field i v) rest = ValueEnds v rest
ChangeEnds (change.store i v) rest = ValueEnds v rest
ChangeEnds (change.addh v) rest = ValueEnds v rest
ChangeEnds (change.addl v) rest = ValueEnds v rest
ChangeEnds (change.set_low i) rest = NotDigit rest
ChangeEnds (change.trim i n) rest = NotDigit rest
ChangeEnds (change.change_tag t v) rest = ValueEnds v rest
ChangeEnds c rest = Unit {0}

-- changes whose numbers are in range, with values of depth at most 16
abbrev pub Changes : Language
Changes = record {
  Thing = PlainChange;
  Good = ChangeWithin MAX_VALUE_DEPTH;
  form = change_spelling;
  Ends = ChangeEnds;
}

-- the words of changes that are one word
abbrev pub WordChanges : Language
WordChanges = Either (Word (codes "remh")) (Either (Word (codes "reml")) (Word (codes "touch")))

-- the parts of changes with one argument
abbrev pub SingleChanges : Language
SingleChanges = Either (Worded (codes "create ") (Contents MAX_VALUE_DEPTH))
    (Either (Worded (codes "addh ") (Values MAX_VALUE_DEPTH))
    (Either (Worded (codes "addl ") (Values MAX_VALUE_DEPTH)) (Worded (codes "set_low ") Ints)))

-- the parts of changes with two arguments
abbrev pub DoubleChanges : Language
DoubleChanges = Either (ByteAndValue (codes "set_field ")) (Either (IntAndValue (codes "store "))
    (Either (TwoInts (codes "trim ")) (ByteAndValue (codes "change_tag "))))

-- what changes are read from
abbrev pub ChangeParts : Language
ChangeParts = Either WordChanges (Either SingleChanges DoubleChanges)
