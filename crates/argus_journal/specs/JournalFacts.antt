-- What a journal says of actions and objects, in the program's numbers.
use Rattle.std.specs.{List.list_any, Prelude.{Bool, List, None, Option, Some, if◌then◌else◌, map, nat_lt, true, ℕ}}
use Rattle.argus_contents.specs.Content.{PlainContent}
use Rattle.argus_entries.specs.Entry.{PlainEntry}
use Rattle.argus_model.specs.{Ancestors.{begun_by, is_ancestor, parent}, Contents.base, History.next_action}
use Rattle.argus_model.specs.{Effects.{effects, written_objects}, Holders.{readers, writers}, Owner.{is_base, owner}}
use Rattle.argus_model.specs.{Numbers.{contains, insert, without}, Status.{is_live, live_siblings}}
use Rattle.argus_model.specs.Work.{Access, accesses_by, committed_topactions, serial_order, serial_order_to, work}
use Rattle.argus_model.specs.Owner as model
use Rattle.argus_journal.specs.{Answers.visible_in_history, Entries.entries, Events.history, declared.owner.Owner.Owner}
use Rattle.argus_journal.specs.Numbering.{all_in_program, in_history, in_program, unless_base}
use Rattle.argus_journal.specs.Opening.{Opening, model_opening}
use Rattle.argus_journal.specs.declared.owner.Owner.TheVariants.{Base, Folded, Gone, Held}

-- the number that the next action gets
abbrev pub next_action_number : Opening → List PlainEntry → ℕ
next_action_number s j = in_program (next_action (history s j))

-- it has begun, and neither it nor an ancestor was aborted, nor has it committed
abbrev pub is_live_in : Opening → List PlainEntry → ℕ → Bool
is_live_in s j a = is_live (history s j) (in_history a)

-- x is a, or the parent of an ancestor of a
abbrev pub is_ancestor_in : Opening → List PlainEntry → ℕ → ℕ → Bool
is_ancestor_in s j x a = is_ancestor (history s j) (in_history x) (in_history a)

-- one of these is an ancestor of a
abbrev pub is_under_in : Opening → List PlainEntry → List ℕ → ℕ → Bool
is_under_in s j actions a = list_any (λ x. is_ancestor_in s j x a) actions

-- the parent of an action; a topaction, nested or not, has none
abbrev pub parent_in : Opening → List PlainEntry → ℕ → Option ℕ
parent_in s j a = unless_base (parent (history s j) (in_history a))

-- the creator of an action: a subaction's parent, or a nested topaction's creator
abbrev pub begun_by_in : Opening → List PlainEntry → ℕ → Option ℕ
begun_by_in s j a = unless_base (begun_by (history s j) (in_history a))

-- p is an ancestor of a; all are under the base, which isn't a parent
abbrev pub is_parent_above : Opening → List PlainEntry → Option ℕ → ℕ → Bool
is_parent_above s j None a = true
is_parent_above s j (Some p) a = is_ancestor_in s j p a

-- the other live actions that the same action began, in increasing number
abbrev pub live_siblings_in : Opening → List PlainEntry → ℕ → List ℕ
live_siblings_in s j a = all_in_program (live_siblings (history s j) (in_history a))

-- an owner of the history, with the program's number
abbrev pub in_program_owner : model.Owner → Owner
in_program_owner model.Folded = Folded
in_program_owner model.Gone = Gone
in_program_owner model.Base = Base
in_program_owner (model.Held x) = Held (record { 0 = in_program x })

-- the owner of what the action did; none if it hasn't begun
abbrev pub owner_in : Opening → List PlainEntry → ℕ → Option Owner
owner_in s j a =
    if nat_lt (in_history a) (next_action (history s j)) then Some
    (in_program_owner (owner (history s j) (in_history a))) else None

-- the read holders of the object, in increasing number
abbrev pub readers_of : Opening → List PlainEntry → ℕ → List ℕ
readers_of s j o = all_in_program (readers entries (history s j) o)

-- the write holders of the object, in increasing number
abbrev pub writers_of : Opening → List PlainEntry → ℕ → List ℕ
writers_of s j o = all_in_program (writers entries (history s j) o)

-- these holders, after a has handed what it holds to its parent, if it has one
abbrev pub holders_inherited : ℕ → Option ℕ → List ℕ → List ℕ
holders_inherited a None holders = without a holders
holders_inherited a (Some p) holders =
    if contains holders a then insert p (without a holders) else holders

-- what the action sees in the object
abbrev pub visible_to : Opening → List PlainEntry → ℕ → ℕ → Option PlainContent
visible_to s j a o = visible_in_history s (history s j) a o

-- each write holder of the object, from ancestor to descendant, with what it sees there: its
-- version
abbrev pub versions_of : Opening → List PlainEntry → ℕ → List (ℕ × Option PlainContent)
versions_of s j o = map (λ a. (a, visible_to s j a o)) (writers_of s j o)

-- the object's base
abbrev pub base_of : Opening → List PlainEntry → ℕ → Option PlainContent
base_of s j o = base entries (model_opening s) (history s j) o

-- the objects that an action and its committed subactions have written, in increasing number
abbrev pub written_by : Opening → List PlainEntry → ℕ → List ℕ
written_by s j a = written_objects entries (work (history s j) (in_history a))

-- what each committed topaction left for good, in the order of their commits
abbrev pub effects_of : Opening → List PlainEntry → List (List (ℕ × Option PlainContent))
effects_of s j = effects entries (model_opening s) (history s j)

-- the committed topactions, nested ones too, the last to commit first
abbrev pub committed_in : Opening → List PlainEntry → List ℕ
committed_in s j = all_in_program (committed_topactions (history s j))

-- the accesses of the committed topactions, one topaction after another in the order of their
-- commits, the newest first
abbrev pub serial_run : Opening → List PlainEntry → List (Access PlainEntry)
serial_run s j = serial_order (history s j)

-- the accesses of the actions whose work is there for good, by when they were made, the newest first
abbrev pub accesses_for_good : Opening → List PlainEntry → List (Access PlainEntry)
accesses_for_good s j = accesses_by (λ a. is_base (owner (history s j) a)) (history s j)

-- the serial run, and after it those of the action's ancestors, the topmost first, and its own
abbrev pub serial_run_to : Opening → List PlainEntry → ℕ → List (Access PlainEntry)
serial_run_to s j a = serial_order_to (history s j) (in_history a)
