-- Journals worked out: an action ends its siblings.
use Rattle.std.specs.Prelude.{List, [], ◌∷◌}
use Rattle.argus_contents.specs.declared.query.Query.TheVariants.{Field}
use Rattle.argus_entries.specs.Call.{PlainCall, abort_others, alter, ask, begin_nested, begin_sub, begin_top, commit}
use Rattle.argus_journal.specs.Worked.{set_to}

-- under topaction 1: subaction 2, which sets object 0 and commits, subaction 3 with its subaction 5
-- and its nested topaction 6, and the nested topaction 4; subaction 7 begins last and ends the
-- others
abbrev pub others_end : List PlainCall
others_end =
    begin_top ∷ begin_sub 1 ∷ begin_sub 1 ∷ begin_nested 1 ∷ begin_sub 3 ∷ begin_nested 3
    ∷ alter 2 0 (set_to 1) ∷ commit 2
    ∷ begin_sub 1 ∷ abort_others 7 ∷ []

-- then calls of those that ended, of the nested topaction 6, and of their parent
abbrev pub afterwards : List PlainCall
afterwards =
    ask 3 0 (Field 0) ∷ ask 6 1 (Field 0) ∷ abort_others 1 ∷ commit 7 ∷ abort_others 1 ∷ commit 1
    ∷ []

-- under topaction 1: subaction 2 sets object 0, nested topaction 3 sets object 1, subaction 4 tests
-- nothing and ends both; then subaction 5 begins, and 4 has no sibling left but 5
abbrev pub both_kinds_end : List PlainCall
both_kinds_end =
    begin_top ∷ begin_sub 1 ∷ begin_nested 1 ∷ begin_sub 1 ∷ alter 2 0 (set_to 2)
    ∷ alter 3 1 (set_to 3) ∷ abort_others 4 ∷ begin_sub 1 ∷ []

-- 4 sets what its siblings had set; nested topaction 3 is over, its creator's other children live
abbrev pub what_they_held_is_free : List PlainCall
what_they_held_is_free =
    alter 4 0 (set_to 4) ∷ alter 5 1 (set_to 5) ∷ ask 3 1 (Field 0) ∷ commit 2 ∷ []

-- an action whose siblings have all ended ends no other
abbrev pub none_is_left : List PlainCall
none_is_left = begin_top ∷ begin_sub 1 ∷ begin_sub 1 ∷ commit 2 ∷ abort_others 3 ∷ ask 3 0 (Field 0)
    ∷ abort_others 9 ∷ abort_others 2 ∷ []

-- a nested topaction ends its creator's other children
abbrev pub a_nested_one_ends_others : List PlainCall
a_nested_one_ends_others =
    begin_top ∷ begin_sub 1 ∷ begin_nested 1 ∷ abort_others 3 ∷ commit 2 ∷ commit 3 ∷ commit 1 ∷ []
