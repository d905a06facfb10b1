-- The languages of calls, and of the readers of some of them.
use Rattle.std.specs.Prelude.{ℕ, List, codes}
use Rattle.argus_contents.specs.declared.limits.TheConstants.{MAX_VALUE_DEPTH}
use Rattle.argus_texts.specs.{Language.Language, Languages.{NotDigit, Pairs, Word}, ShapeSpelling.IsMakeable}
use Rattle.argus_entries.specs.{Call.PlainCall, EntrySpelling.call_spelling, Laws.CallWithin}
use Rattle.argus_entries.specs.Call as call
use Rattle.argus_reading.specs.Combined.{Either, Worded}
use Rattle.argus_reading.specs.Operations.{blank, ChangeEnds, Changes, Ids, Queries, QueryEnds}

-- a word, the number of an action, and an object after a blank
abbrev pub Places : List ℕ → Language
Places word = Pairs (Worded word Ids) blank (Worded (codes "o") Ids)

-- a shape that is declared can be made
abbrev pub DeclaresShape : PlainCall → Type 0
DeclaresShape (call.declare s) = IsMakeable s
DeclaresShape c = Unit {0}

-- a call whose numbers are in range, with values of depth at most 16, and a shape that can be made
abbrev pub IsReadableCall : PlainCall → Type 0
IsReadableCall c = CallWithin MAX_VALUE_DEPTH c × DeclaresShape c

-- what may come after a call
abbrev pub CallEnds : PlainCall → List ℕ → Type 0
CallEnds (call.declare s) rest = Unit {0}
CallEnds call.begin_top rest = Unit {0}
CallEnds (call.ask a o q) rest = QueryEnds q rest
CallEnds (call.alter a o c) rest = ChangeEnds c rest
CallEnds c rest = NotDigit rest

-- such calls
abbrev pub Calls : Language
Calls = record { Thing = PlainCall; Good = IsReadableCall; form = call_spelling; Ends = CallEnds }

-- the parts of calls that begin or end actions
abbrev pub ActionCalls : Language
ActionCalls = Either (Word (codes "begin_top")) (Either (Worded (codes "begin_sub a") Ids)
    (Either (Worded (codes "begin_nested a") Ids) (Either (Worded (codes "commit a") Ids)
    (Either (Worded (codes "abort a") Ids) (Worded (codes "abort_others a") Ids)))))

-- a query of an object
abbrev pub Asks : Language
Asks = Pairs (Places (codes "ask a")) blank Queries

-- a change of an object
abbrev pub Alters : Language
Alters = Pairs (Places (codes "alter a")) blank Changes

-- the parts of calls that name an object
abbrev pub ObjectCalls : Language
ObjectCalls = Either Asks (Either Alters (Either (Places (codes "test_read a"))
    (Places (codes "test_write a"))))

-- what calls are read from; for a declaration only its word
abbrev pub CallParts : Language
CallParts = Either (Word (codes "declare ")) (Either ActionCalls ObjectCalls)
