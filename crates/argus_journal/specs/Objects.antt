-- The objects that a journal declares.
use Rattle.std.specs.Prelude.{Bool, List, Option, [], false, if◌then◌else◌, length, map, slice_get, true, ℕ, ◌++◌, ◌∷◌}
use Rattle.argus_contents.specs.Shape.{PlainShape}
use Rattle.argus_entries.specs.Call.{PlainCall, abort, abort_others, alter, ask, begin_nested, begin_sub, begin_top}
use Rattle.argus_entries.specs.{Call.{commit, declare, test_read, test_write}, Entry.PlainEntry}
use Rattle.argus_entries.specs.Reply.{PlainReply, answered, begun, object, refused}
use Rattle.argus_journal.specs.Opening.{Opening}

-- the reply is the number of an object
abbrev pub names_object : PlainReply → Bool
names_object (object o) = true
names_object (begun a) = false
names_object (answered x) = false
names_object (refused why) = false

-- the shape that a call with this reply declares, if any
abbrev pub declared_by : PlainCall → PlainReply → List PlainShape
declared_by (declare shape) r = if names_object r then shape ∷ [] else []
declared_by begin_top r = []
declared_by (begin_sub parent) r = []
declared_by (begin_nested creator) r = []
declared_by (commit a) r = []
declared_by (abort a) r = []
declared_by (abort_others a) r = []
declared_by (ask a o query) r = []
declared_by (alter a o change) r = []
declared_by (test_read a o) r = []
declared_by (test_write a o) r = []

-- the shapes of the declared objects, in the order of their numbers
abbrev pub shapes : Opening → List PlainEntry → List PlainShape
shapes s [] = map (λ object. object.0) s.objects
shapes s (e ∷ older) = shapes s older ++ declared_by e.call e.reply

-- how many objects are declared
abbrev pub declared : Opening → List PlainEntry → ℕ
declared s j = length (shapes s j)

-- the shape of an object, if it is declared
abbrev pub shape_of : Opening → List PlainEntry → ℕ → Option PlainShape
shape_of s j o = slice_get (shapes s j) o
