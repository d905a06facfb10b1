-- What the numbers in a journal's entries say, newest first. For a legal journal it is what its
-- history says.
use Rattle.std.specs.Prelude.{◌&&◌, Bool, List, None, Option, Some, [], false, if◌then◌else◌, nat_lt, not, true, ℕ}
use Rattle.std.specs.Prelude.{◌==◌, ◌||◌, ◌∷◌, ◌≡◌}
use Rattle.argus_actions.specs.declared.action_id.ActionId.{ActionId}
use Rattle.argus_contents.specs.Content.{PlainContent}
use Rattle.argus_entries.specs.Call.{PlainCall, abort, abort_others, alter, ask, begin_nested, begin_sub, begin_top}
use Rattle.argus_entries.specs.{Call.{commit, declare, test_read, test_write}, Entry.PlainEntry}
use Rattle.argus_entries.specs.Reply.{PlainReply, answered, begun, object, refused}
use Rattle.argus_journal.specs.{Entries.content_after_call, Events.{is_answered, says_yes}, declared.owner.Owner.Owner}
use Rattle.argus_journal.specs.Opening.{Opening, content_in}
use Rattle.argus_journal.specs.declared.owner.Owner.TheVariants.{Base, Folded, Gone, Held}

-- the reply begins this action
abbrev pub begins : PlainReply → ℕ → Bool
begins (begun n) a = n == a
begins (object o) a = false
begins (answered x) a = false
begins (refused why) a = false

-- the parent of the action that the call begins; a topaction, nested or not, has none
abbrev pub parent_by : PlainCall → Option ℕ
parent_by (begin_sub parent) = Some parent
parent_by begin_top = None
parent_by (begin_nested creator) = None
parent_by (declare shape) = None
parent_by (commit a) = None
parent_by (abort a) = None
parent_by (abort_others a) = None
parent_by (ask a o query) = None
parent_by (alter a o change) = None
parent_by (test_read a o) = None
parent_by (test_write a o) = None

-- the creator of the action that the call begins: its parent or its creator
abbrev pub begun_by_call : PlainCall → Option ℕ
begun_by_call (begin_sub parent) = Some parent
begun_by_call (begin_nested creator) = Some creator
begun_by_call begin_top = None
begun_by_call (declare shape) = None
begun_by_call (commit a) = None
begun_by_call (abort a) = None
begun_by_call (abort_others a) = None
begun_by_call (ask a o query) = None
begun_by_call (alter a o change) = None
begun_by_call (test_read a o) = None
begun_by_call (test_write a o) = None

-- what holds of the parent of the action that the call begins
abbrev pub at_parent : {X : Type 0} → X → Option ℕ → (ℕ → X) → X
at_parent none None up = none
at_parent none (Some parent) up = up parent

-- x is a, or above its parent
abbrev pub is_ancestor_by_entries : List PlainEntry → ℕ → ℕ → Bool
is_ancestor_by_entries [] x a = x == a
is_ancestor_by_entries (e ∷ older) x a =
    if begins e.reply a then
    (x == a || at_parent false (parent_by e.call) (is_ancestor_by_entries older x)) else
    is_ancestor_by_entries older x a

-- the parent of an action; none for a topaction, and for one that hasn't begun
abbrev pub parent_by_entries : List PlainEntry → ℕ → Option ℕ
parent_by_entries [] a = None
parent_by_entries (e ∷ older) a = if begins e.reply a then parent_by e.call else parent_by_entries
    older a

-- the creator of an action
abbrev pub begun_by_entries : List PlainEntry → ℕ → Option ℕ
begun_by_entries [] a = None
begun_by_entries (e ∷ older) a = if begins e.reply a then begun_by_call e.call else
    begun_by_entries older a

-- the number is this one
abbrev pub is_this_action : Option ℕ → ℕ → Bool
is_this_action None c = false
is_this_action (Some x) c = x == c

-- c began x and x isn't b, or c began one above it that isn't b
abbrev pub is_under_sibling_by_entries : List PlainEntry → ℕ → ℕ → ℕ → Bool
is_under_sibling_by_entries [] c b x = false
is_under_sibling_by_entries (e ∷ older) c b x =
    if begins e.reply x
    then ((not (x == b) && is_this_action (begun_by_call e.call) c)
    || at_parent false (parent_by e.call) (is_under_sibling_by_entries older c b))
    else is_under_sibling_by_entries older c b x

-- the next owner of what a committed action did
abbrev pub heir : Option ℕ → Owner
heir None = Base
heir (Some parent) = Held (record { 0 = parent })

-- x, or nobody after it is over
abbrev pub gone_if : Bool → ActionId → Owner
gone_if over x = if over then Gone else Held x

-- the owner x of some work, after this call with its reply
abbrev pub owner_then : PlainCall → List PlainEntry → ActionId → Owner
owner_then (commit b) older x = if b == x.0 then heir (parent_by_entries older b) else Held x
owner_then (abort b) older x = gone_if (is_ancestor_by_entries older b x.0) x
owner_then (abort_others b) older x =
    gone_if (at_parent false (begun_by_entries older b)
    (λ c. is_under_sibling_by_entries older c b x.0)) x
owner_then (declare shape) older x = Held x
owner_then begin_top older x = Held x
owner_then (begin_sub parent) older x = Held x
owner_then (begin_nested creator) older x = Held x
owner_then (ask a o query) older x = Held x
owner_then (alter a o change) older x = Held x
owner_then (test_read a o) older x = Held x
owner_then (test_write a o) older x = Held x

-- the owner of what a did, after one more entry
abbrev pub owner_next : PlainEntry → List PlainEntry → Option Owner → Option Owner
owner_next e older None = None
owner_next e older (Some Folded) = Some Folded
owner_next e older (Some Gone) = Some Gone
owner_next e older (Some Base) = Some Base
owner_next e older (Some (Held x)) =
    Some (if is_answered e.reply then owner_then e.call older x else Held x)

-- the owner of what an action did, if the first action has this number; none if it hasn't begun
abbrev pub owner_by_entries : ℕ → List PlainEntry → ℕ → Option Owner
owner_by_entries first [] a = if nat_lt a first then Some Folded else None
owner_by_entries first (e ∷ older) a =
    if begins e.reply a then Some (Held (record { 0 = a })) else
    owner_next e older (owner_by_entries first older a)

-- work with this owner counts for the reader: it is there for good, or held by the reader or an
-- ancestor of it
abbrev pub counts_with : List PlainEntry → Option ActionId → Option Owner → Bool
counts_with j reader None = false
counts_with j reader (Some Folded) = false
counts_with j reader (Some Gone) = false
counts_with j reader (Some Base) = true
counts_with j None (Some (Held x)) = false
counts_with j (Some h) (Some (Held x)) = is_ancestor_by_entries j x.0 h.0

-- what the action did counts
abbrev pub counts_by_entries : ℕ → List PlainEntry → Option ActionId → ℕ → Bool
counts_by_entries first j reader a = counts_with j reader (owner_by_entries first j a)

-- the action that writes the object by a call of this reply
abbrev pub writer_by : PlainCall → PlainReply → ℕ → Option ActionId
writer_by (alter a i change) reply o =
    if i == o && is_answered reply then Some (record { 0 = a }) else None
writer_by (test_write a i) reply o =
    if i == o && says_yes reply then Some (record { 0 = a }) else None
writer_by (declare shape) reply o = None
writer_by begin_top reply o = None
writer_by (begin_sub parent) reply o = None
writer_by (begin_nested creator) reply o = None
writer_by (commit a) reply o = None
writer_by (abort a) reply o = None
writer_by (abort_others a) reply o = None
writer_by (ask a i query) reply o = None
writer_by (test_read a i) reply o = None

-- there is a writer, and it counts
abbrev pub is_counted : (ℕ → Bool) → Option ActionId → Bool
is_counted counts None = false
is_counted counts (Some a) = counts a.0

-- what f makes of the content, if there is a writer and it counts
abbrev pub written_if : (ℕ → Bool) → (Option PlainContent → Option PlainContent) → Option ActionId
    → Option PlainContent
    → Option PlainContent
written_if counts f writer c = if is_counted counts writer then f c else c

-- the content after an entry, if its action writes the object and counts
abbrev pub replay_next : (ℕ → Bool) → PlainEntry → ℕ → Option PlainContent → Option PlainContent
replay_next counts e o c = written_if counts (content_after_call e.call)
    (writer_by e.call e.reply o) c

-- from the opening on, what each write to the object leaves, in order, if its action counts by the
-- whole journal
abbrev pub replayed : Opening → List PlainEntry → Option ActionId → ℕ → List PlainEntry
    → Option PlainContent
replayed s j reader o [] = content_in s.objects o
replayed s j reader o (e ∷ older) =
    replay_next (counts_by_entries s.first_action j reader) e o (replayed s j reader o older)
