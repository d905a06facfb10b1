-- A tree of actions in the terms of the history. The tree's action a is a + 1 there, where 0 is the
-- base.
use Rattle.std.specs.{Option.option_map, Prelude.{Option, map, ◌+◌, ◌≡◌}}
use Rattle.argus_actions.specs.Row as tree_row
use Rattle.argus_actions.specs.{Tree.Tree, declared.action_refusal.ActionRefusal.ActionRefusal}
use Rattle.argus_actions.specs.declared.action_refusal.ActionRefusal.TheVariants as refusal
use Rattle.argus_actions.specs.declared.origin.Origin as tree_origin
use Rattle.argus_actions.specs.declared.origin.Origin.TheVariants as begun
use Rattle.argus_actions.specs.declared.status.Status as tree_status
use Rattle.argus_actions.specs.declared.status.Status.TheVariants as became
use Rattle.argus_entries.specs.declared.refusal.Refusal.{Refusal}
use Rattle.argus_entries.specs.declared.refusal.Refusal.TheVariants as why
use Rattle.argus_model.specs.{Event.{Nested, Origin, Sub, Top}, History.{History, folded}, Rows.{Row, rows}}
use Rattle.argus_model.specs.Status.{IsAborted, IsCommitted, IsFolded, IsLive, Status}

-- how an action was begun
abbrev pub history_origin : tree_origin.Origin → Origin
history_origin begun.Top = Top
history_origin (begun.Sub parent) = Sub (parent + 1)
history_origin (begun.Nested creator) = Nested (creator + 1)

-- what became of it
abbrev pub history_status : tree_status.Status → Status
history_status became.Live = IsLive
history_status became.Committed = IsCommitted
history_status became.Aborted = IsAborted
history_status became.Folded = IsFolded

-- its row
abbrev pub history_row : tree_row.Row → Row
history_row row = record { origin = history_origin row.origin; status = history_status row.status }

-- the tree has as many folded actions as the history, and the same rows
pub record IsTree {V : Type 0} (tree : Tree) (h : History V) : Type 0 where
  pub folded : tree.folded ≡ folded h
  pub rows : map history_row tree.rows ≡ rows h

-- why the tree refuses a call, in the journal's terms
abbrev pub journal_refusal : ActionRefusal → Refusal
journal_refusal refusal.NoAction = why.NoAction
journal_refusal refusal.Over = why.Over
journal_refusal refusal.ChildrenLive = why.Suspended
journal_refusal refusal.TooDeep = why.TooDeep
journal_refusal refusal.TooMany = why.TooMany
journal_refusal refusal.NoSiblings = why.NoSiblings

-- the refusal, if there is one
abbrev pub journal_refusal_if_any : Option ActionRefusal → Option Refusal
journal_refusal_if_any q = option_map journal_refusal q
