-- Journals worked out: calls, each with the answer of the entries before it.
use Rattle.std.specs.Prelude.{List, Option, Some, [], codes, map, pos, suc, zero, ℕ, ◌+◌, ◌∷◌}
use Rattle.argus_contents.specs.{Change.{PlainChange, addh, change_tag, create, remh, set_field}, Shape.PlainShape}
use Rattle.argus_contents.specs.{Content.{PlainContent, arr, rec, var}, declared.limits.TheConstants.MAX_ACTIONS}
use Rattle.argus_contents.specs.declared.query.Query.TheVariants.{Field, High, IsTag, TagValue, Whole}
use Rattle.argus_contents.specs.Shape as shape
use Rattle.argus_contents.specs.Ty as ty
use Rattle.argus_contents.specs.Value as value
use Rattle.argus_entries.specs.Call.{PlainCall, abort, alter, ask, begin_nested, begin_sub, begin_top, commit, declare}
use Rattle.argus_entries.specs.{Call.test_write, Entry.PlainEntry, Reply.PlainReply}
use Rattle.argus_journal.specs.{Answers.answer, Opening.{Opening, empty}, JournalFacts.{serial_run, serial_run_to}}
use Rattle.argus_journal.specs.{declared.owner.Owner.Owner, declared.owner.Owner.TheVariants.Held}

-- the journal, with each of these calls and its answer after it
abbrev pub then_calls : Opening → List PlainEntry → List PlainCall → List PlainEntry
then_calls s j [] = j
then_calls s j (call ∷ calls) =
    then_calls s (record { call = call; reply = answer s j call } ∷ j) calls

-- the journal of these calls
abbrev pub journal : List PlainCall → List PlainEntry
journal calls = then_calls empty [] calls

-- the replies to these calls after the journal
abbrev pub replies : Opening → List PlainEntry → List PlainCall → List PlainReply
replies s j [] = []
replies s j (call ∷ calls) =
    answer s j call ∷ replies s (record { call = call; reply = answer s j call } ∷ j) calls

-- the calls of the serial run, the newest first
abbrev pub calls_run : List PlainEntry → List PlainCall
calls_run j = map (λ access. access.what.call) (serial_run empty j)

-- the calls of the serial run up to a live action, the newest first
abbrev pub calls_run_to : List PlainEntry → ℕ → List PlainCall
calls_run_to j a = map (λ access. access.what.call) (serial_run_to empty j a)

-- the action that owns some work
abbrev pub held : ℕ → Option Owner
held a = Some (Held (record { 0 = a }))

-- a record of one number, its shape, and the change of the number
abbrev pub number_shape : PlainShape
number_shape = shape.rec (ty.more (codes "n") ty.int ty.none)

-- a record that holds this integer
abbrev pub holding : ℕ → PlainContent
holding n = rec (value.int (pos n) ∷ [])

-- the change of that record to this integer
abbrev pub set_to : ℕ → PlainChange
set_to n = set_field 0 (value.int (pos n))

-- objects 0 and 1 hold 0: topaction 0 has created them
abbrev pub prepared : List PlainCall
prepared = declare number_shape ∷ declare number_shape ∷ begin_top ∷ alter 0 0 (create (holding 0))
    ∷ alter 0 1
    (create (holding 0)) ∷ commit 0 ∷ []

-- topaction 1 and its subaction 2 each set object 0
abbrev pub sub_writes : List PlainCall
sub_writes = begin_top ∷ alter 1 0 (set_to 1) ∷ begin_sub 1 ∷ alter 2 0 (set_to 2) ∷ []

-- subactions 2 and 3 of topaction 1 read object 0; 2 waits for 3 to commit before it may write
abbrev pub two_read : List PlainCall
two_read = begin_top ∷ begin_sub 1 ∷ begin_sub 1 ∷ ask 2 0 (Field 0) ∷ ask 3 0 (Field 0) ∷ alter 2 0
    (set_to 1) ∷ commit 3 ∷ []

-- topaction 1 sets object 0 and begins the nested topaction 2, which can't read it, sets object 1
-- and commits; 1 is aborted
abbrev pub nested_outlives : List PlainCall
nested_outlives =
    begin_top ∷ alter 1 0 (set_to 9) ∷ begin_nested 1 ∷ ask 2 0 (Field 0) ∷ alter 2 1
    (set_to 8) ∷ commit 2 ∷ abort 1 ∷ []

-- topaction 1 is suspended by its subaction 2, and aborted; then calls that name what is over, not
-- begun or not declared
abbrev pub refused_in_turn : List PlainCall
refused_in_turn =
    begin_top ∷ begin_sub 1 ∷ ask 1 0 (Field 0) ∷ commit 1 ∷ abort 1 ∷ ask 2 9 (Field 0) ∷ ask 7 0
    (Field 0) ∷ begin_top ∷ ask 3 9 (Field 0) ∷ []

-- topaction 2 removes an item of the empty array 2, and has the write lock though it got only a
-- signal
abbrev pub signal_holds : List PlainCall
signal_holds =
    declare (shape.arr ty.int) ∷ begin_top ∷ alter 1 2
    (create (arr (pos 1) [])) ∷ commit 1 ∷ begin_top ∷ alter 2 2 remh ∷ []

-- the one that got the signal is aborted, and then the other adds an item
abbrev pub signal_ends : List PlainCall
signal_ends =
    begin_top ∷ alter 3 2 (addh (value.int (pos 5))) ∷ abort 2 ∷ alter 3 2
    (addh (value.int (pos 5))) ∷ ask 3 2 High ∷ []

-- topaction 1 makes a variant, and topaction 2 changes its tag, at first with a value of another
-- type
abbrev pub tag_changes : List PlainCall
tag_changes =
    declare (shape.var (ty.more (codes "ok") ty.int (ty.more (codes "bad") ty.text ty.none)))
    ∷ begin_top ∷ alter 1 2 (create (var 0 (value.int (pos 5)))) ∷ ask 1 2 (TagValue 1)
    ∷ ask 1 2 (IsTag 1) ∷ []

-- the topaction commits; the next one is refused a tag with another tag's value
abbrev pub tag_refused : List PlainCall
tag_refused = commit 1 ∷ begin_top ∷ alter 2 2 (change_tag 1 (value.int (pos 7))) ∷ []

-- then it changes the tag, and looks
abbrev pub tag_changed : List PlainCall
tag_changed = alter 2 2 (change_tag 1 (value.text (codes "no"))) ∷ ask 2 2 Whole ∷ []

-- topactions 1 and 2 at object 0: 1 has read it, and 2 tests it for writing
abbrev pub tests_no : List PlainCall
tests_no = begin_top ∷ begin_top ∷ ask 1 0 (Field 0) ∷ test_write 2 0 ∷ []

-- topaction 1, which began first, commits after topaction 2 and has read what 2 left
abbrev pub turns : List PlainCall
turns = begin_top ∷ begin_top ∷ alter 1 0 (set_to 1) ∷ alter 2 1 (set_to 2) ∷ commit 2 ∷ ask 1 1
    (Field 0) ∷ commit 1 ∷ []

-- subactions 2 and 3 of topaction 1 set objects 0 and 1; 3 began last and commits first, and 2 then
-- reads what it left
abbrev pub sub_turns : List PlainCall
sub_turns =
    begin_top ∷ begin_sub 1 ∷ begin_sub 1 ∷ alter 2 0 (set_to 1) ∷ alter 3 1 (set_to 2) ∷ commit 3
    ∷ ask 2 1 (Field 0) ∷ commit 2 ∷ commit 1 ∷ []

-- subaction 2 of topaction 1 sets object 0: its parent, its sibling 3 and its nested topaction 4
-- all have to wait
abbrev pub all_wait : List PlainCall
all_wait =
    begin_top ∷ begin_sub 1 ∷ alter 2 0 (set_to 1) ∷ alter 1 0 (set_to 2) ∷ begin_sub 1
    ∷ alter 3 0 (set_to 2)
    ∷ begin_nested 2 ∷ ask 4 0 (Field 0) ∷ commit 2 ∷ []

-- a reference to an object that isn't declared, and again when it is
abbrev pub reference_waits : List PlainCall
reference_waits =
    declare (shape.rec (ty.more (codes "r") ty.atomic ty.none)) ∷ begin_top
    ∷ alter 1 2 (create (rec (value.atomic 3 ∷ []))) ∷ declare number_shape ∷ alter 1 2
    (create (rec (value.atomic 3 ∷ []))) ∷ []

-- n subactions one under another, from action a down
abbrev pub chain : ℕ → ℕ → List PlainCall
chain a zero = []
chain a (suc n) = begin_sub a ∷ chain (a + 1) n

-- as many actions as the limit allows were begun before the opening
abbrev pub full : Opening
full = record { objects = []; first_action = MAX_ACTIONS; first_entry = 0 }
