-- What a call makes of a tree of actions when it is made again.
use Rattle.std.specs.Prelude.{None, Option, Some}
use Rattle.argus_actions.specs.Refusals.{abort_others_refusal, abort_refusal, begin_nested_refusal, begin_sub_refusal}
use Rattle.argus_actions.specs.Refusals.{begin_top_refusal, commit_refusal}
use Rattle.argus_actions.specs.Tree.{SameActions, Tree, after_abort, after_abort_others, after_begin, after_commit}
use Rattle.argus_actions.specs.declared.action_refusal.ActionRefusal.{ActionRefusal}
use Rattle.argus_actions.specs.declared.origin.Origin.TheVariants.{Nested, Sub, Top}
use Rattle.argus_entries.specs.Call.{PlainCall, abort, abort_others, alter, ask, begin_nested, begin_sub, begin_top}
use Rattle.argus_entries.specs.Call.{commit, declare, test_read, test_write}

-- a step from the tree t to u: the actions that it makes, or t's if the tree refuses it
abbrev pub Step : Option ActionRefusal → Tree → Tree → Tree → Type 0
Step None made t u = SameActions made u
Step (Some why) made t u = SameActions t u

-- after the call the tree t has the actions of u
abbrev pub Retraced : PlainCall → Tree → Tree → Type 0
Retraced begin_top t u = Step (begin_top_refusal t) (after_begin t Top) t u
Retraced (begin_sub parent) t u =
    Step (begin_sub_refusal t parent) (after_begin t (Sub parent)) t u
Retraced (begin_nested creator) t u =
    Step (begin_nested_refusal t creator) (after_begin t (Nested creator)) t u
Retraced (commit a) t u = Step (commit_refusal t a) (after_commit t a) t u
Retraced (abort a) t u = Step (abort_refusal t a) (after_abort t a) t u
Retraced (abort_others a) t u = Step (abort_others_refusal t a) (after_abort_others t a) t u
Retraced (declare shape) t u = SameActions t u
Retraced (ask a o query) t u = SameActions t u
Retraced (alter a o change) t u = SameActions t u
Retraced (test_read a o) t u = SameActions t u
Retraced (test_write a o) t u = SameActions t u
