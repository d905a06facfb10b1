-- What a guardian returns about its objects, as contracts see it.
use Rattle.std.specs.{Borrow.Bor, Prelude.{List, None, Option, Some, if◌then◌else◌, map, nat_lt, ℕ}}
use Rattle.argus_actions.specs.declared.action_id.ActionId.{ActionId}
use Rattle.argus_contents.specs.{Content.{PlainContent, plain_option}, Shape.PlainShape, declared.shape.Shape.Shape}
use Rattle.argus_contents.specs.declared.content.Content.{Content}
use Rattle.argus_entries.specs.Call.{PlainCall, abort, abort_others, alter, ask, begin_nested, begin_sub, begin_top}
use Rattle.argus_entries.specs.{Call.{commit, declare, test_read, test_write}, declared.refusal.Refusal.Refusal}
use Rattle.argus_journal.specs.{JournalView.{JournalView, refusal_to}, Objects.declared}
use Rattle.argus_objects.specs.declared.version.Version.{Version}

-- the fact about the object, if it is declared
abbrev pub where_declared : {A : Type 0} → JournalView → ℕ → A → Option A
where_declared journal o fact =
    if nat_lt o (declared journal.opening journal.entries) then Some fact else None

-- the shape that is returned, if any
abbrev pub plain_shape_found : Option (Bor Shape) → Option PlainShape
plain_shape_found None = None
plain_shape_found (Some shape) = Some shape.now

-- the content that is returned, if any, which may be absent
abbrev pub plain_content_found : Option (Bor (Option Content)) → Option (Option PlainContent)
plain_content_found None = None
plain_content_found (Some content) = Some (plain_option content.now)

-- the numbers of the actions that are returned, in their order
abbrev pub action_numbers_found : Option (Bor (List ActionId)) → Option (List ℕ)
action_numbers_found None = None
action_numbers_found (Some actions) = Some (map (λ a. a.0) actions.now)

-- a version: the number of its holder, and the content
abbrev pub version_pair : Version → ℕ × Option PlainContent
version_pair v = (v.holder.0, plain_option v.content)

-- the stack of versions that is returned, in its order
abbrev pub version_pairs_found : Option (Bor (List Version)) → Option (List (ℕ
    × Option PlainContent))
version_pairs_found None = None
version_pairs_found (Some versions) = Some (map version_pair versions.now)

-- why a query or a change would be refused; none for every other call
abbrev pub refusal_of_access : JournalView → PlainCall → Option Refusal
refusal_of_access journal (ask a o query) = refusal_to journal (ask a o query)
refusal_of_access journal (alter a o change) = refusal_to journal (alter a o change)
refusal_of_access journal (declare shape) = None
refusal_of_access journal begin_top = None
refusal_of_access journal (begin_sub parent) = None
refusal_of_access journal (begin_nested creator) = None
refusal_of_access journal (commit a) = None
refusal_of_access journal (abort a) = None
refusal_of_access journal (abort_others a) = None
refusal_of_access journal (test_read a o) = None
refusal_of_access journal (test_write a o) = None
