-- Journals worked out: which refusal comes first if several apply, and calls at the limits.
use Rattle.std.specs.Prelude.{List, [], codes, pos, ℕ, ◌-◌, ◌∷◌}
use Rattle.argus_contents.specs.{Change.{create, set_field}, Content.arr}
use Rattle.argus_contents.specs.declared.limits.TheConstants.{MAX_ACTIONS, MAX_ACTION_DEPTH}
use Rattle.argus_contents.specs.declared.query.Query.TheVariants.{Field, High, Size}
use Rattle.argus_contents.specs.Shape as shape
use Rattle.argus_contents.specs.Ty as ty
use Rattle.argus_contents.specs.Value as value
use Rattle.argus_entries.specs.Call.{PlainCall, abort, alter, ask, begin_nested, begin_sub, begin_top, commit, declare}
use Rattle.argus_entries.specs.Call.{test_read, test_write}
use Rattle.argus_journal.specs.{Opening.Opening, Worked.{chain, set_to}}

-- topaction 2 makes an ill-typed change of object 0, which 1 has written, and a query for arrays of
-- it
abbrev pub ill_typed_and_held : List PlainCall
ill_typed_and_held =
    begin_top ∷ alter 1 0 (set_to 1) ∷ begin_top ∷ alter 2 0 (set_field 0 (value.text (codes "x")))
    ∷ ask 2 0 High ∷ ask 2 0 (Field 0) ∷ []

-- topaction 1 is aborted while its nested topaction 2 lives: it is over, though it has a live child
abbrev pub over_and_suspended : List PlainCall
over_and_suspended =
    begin_top ∷ begin_nested 1 ∷ abort 1 ∷ commit 1 ∷ ask 1 0 (Field 0) ∷ abort 1 ∷ []

-- topaction 1, suspended by its subaction 2, queries, changes and tests an object that isn't
-- declared; it may begin a nested topaction
abbrev pub suspended_and_undeclared : List PlainCall
suspended_and_undeclared =
    begin_top ∷ begin_sub 1 ∷ ask 1 9 (Field 0) ∷ alter 1 9 (set_to 1) ∷ test_read 1 9
    ∷ test_write 1 9 ∷ begin_nested 1 ∷ []

-- tests of an object that isn't declared, by an action that is over, by one that hasn't begun and
-- by a live one
abbrev pub tests_in_order : List PlainCall
tests_in_order =
    begin_top ∷ commit 1 ∷ test_read 1 9 ∷ test_write 1 9 ∷ test_read 5 9 ∷ test_write 5 9
    ∷ begin_top ∷ test_read 2 9 ∷ test_write 2 9 ∷ []

-- topaction 1 asks the absent array 2 for its size, and gets a signal; topaction 2 then wants to
-- create it
abbrev pub a_signalled_question : List PlainCall
a_signalled_question =
    declare (shape.arr ty.int) ∷ begin_top ∷ ask 1 2 Size ∷ begin_top
    ∷ alter 2 2 (create (arr (pos 1) [])) ∷ []

-- subaction 2 tests object 0 for writing, which its parent 1 has set
abbrev pub a_test_below_a_write : List PlainCall
a_test_below_a_write = begin_top ∷ alter 1 0 (set_to 1) ∷ begin_sub 1 ∷ test_write 2 0 ∷ []

-- topaction 1 reads and commits
abbrev pub a_reader : List PlainCall
a_reader = begin_top ∷ ask 1 0 (Field 0) ∷ commit 1 ∷ []

-- topaction 1 sets object 0; its nested topaction 2 sets object 1 and commits; its subaction 3 reads
-- object 1, sets object 0 and begins a subaction, 4, which is aborted after it has set object 1
abbrev pub a_live_subaction : List PlainCall
a_live_subaction =
    begin_top ∷ alter 1 0 (set_to 1) ∷ begin_nested 1 ∷ alter 2 1 (set_to 2) ∷ commit 2 ∷ begin_sub 1
    ∷ ask 3 1 (Field 0) ∷ alter 3 0 (set_to 3) ∷ begin_sub 3 ∷ alter 4 1 (set_to 4) ∷ abort 4 ∷ []

-- this many actions were begun before the opening
abbrev pub going_on_at : ℕ → Opening
going_on_at n = record { objects = []; first_action = n; first_entry = 0 }

-- the last action that the limit allows begins and is aborted; then begins under it, under one that
-- hasn't begun, and of a topaction
abbrev pub the_last_action : List PlainCall
the_last_action =
    begin_top ∷ abort (MAX_ACTIONS - 1) ∷ begin_sub (MAX_ACTIONS - 1)
    ∷ begin_nested (MAX_ACTIONS - 1)
    ∷ begin_sub MAX_ACTIONS ∷ begin_nested MAX_ACTIONS ∷ begin_top ∷ []

-- the last actions that the limit allows are one under another, as deep as they may be; then begins
-- under the deepest
abbrev pub the_last_chain : List PlainCall
the_last_chain = begin_top ∷ chain (MAX_ACTIONS - MAX_ACTION_DEPTH) 63

-- a subaction and a nested topaction of the action with the highest number
abbrev pub under_the_deepest : List PlainCall
under_the_deepest = begin_sub (MAX_ACTIONS - 1) ∷ begin_nested (MAX_ACTIONS - 1) ∷ []
