-- Which calls end actions, so that waiting threads try again.
use Rattle.argus_entries.specs.Call.{PlainCall, abort, abort_others, alter, ask, begin_nested, begin_sub, begin_top}
use Rattle.argus_entries.specs.Call.{commit, declare, test_read, test_write}
use Rattle.std.specs.Prelude.{Bool, false, true}

-- a commit, an abort or an abort of all others ends actions, unless it is refused
abbrev pub may_end : PlainCall → Bool
may_end (commit a) = true
may_end (abort a) = true
may_end (abort_others a) = true
may_end (declare shape) = false
may_end begin_top = false
may_end (begin_sub parent) = false
may_end (begin_nested creator) = false
may_end (ask a o query) = false
may_end (alter a o change) = false
may_end (test_read a o) = false
may_end (test_write a o) = false
