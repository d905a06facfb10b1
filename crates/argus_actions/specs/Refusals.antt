-- The first refusal that applies to each call, if any.
use Rattle.std.specs.Prelude.{◌≡◌, ℕ, Bool, nat_le, if◌then◌else◌, Option, Some, None, Result, Err, IfErr}
use Rattle.std.specs.Option.{option_or, is_none}
use Rattle.argus_contents.specs.declared.limits.TheConstants.{MAX_ACTIONS, MAX_ACTION_DEPTH}
use Rattle.argus_actions.specs.{declared.action_error.ActionError.ActionError, declared.status.Status.Status}
use Rattle.argus_actions.specs.declared.action_error.ActionError.TheVariants.{Refused, OutOfMemory}
use Rattle.argus_actions.specs.{declared.action_refusal.ActionRefusal.ActionRefusal, Rows.{depth_at, under_at}}
use Rattle.argus_actions.specs.declared.action_refusal.ActionRefusal.TheVariants.{NoAction, Over, ChildrenLive, TooDeep}
use Rattle.argus_actions.specs.declared.action_refusal.ActionRefusal.TheVariants.{TooMany, NoSiblings}
use Rattle.argus_actions.specs.declared.status.Status.TheVariants.{Live, Committed, Aborted, Folded}
use Rattle.argus_actions.specs.Tree.{Tree, next, status_of, has_live_child}

-- an action that was not begun, or has ended, is refused; so is a folded one
abbrev pub unless_live : Option Status → Option ActionRefusal
unless_live None = Some NoAction
unless_live (Some Live) = None
unless_live (Some Committed) = Some Over
unless_live (Some Aborted) = Some Over
unless_live (Some Folded) = Some Over

-- this refusal, if the test holds
abbrev pub refused_if : Bool → ActionRefusal → Option ActionRefusal
refused_if test refusal = if test then Some refusal else None

-- why no topaction may begin
abbrev pub begin_top_refusal : Tree → Option ActionRefusal
begin_top_refusal tree = refused_if (nat_le MAX_ACTIONS (next tree)) TooMany

-- why no subaction of this action may begin
abbrev pub begin_sub_refusal : Tree → ℕ → Option ActionRefusal
begin_sub_refusal tree parent =
    option_or (unless_live (status_of tree parent))
    (option_or (refused_if (nat_le MAX_ACTION_DEPTH (depth_at tree.folded tree.rows parent))
    TooDeep) (begin_top_refusal tree))

-- why no nested topaction of this action may begin
abbrev pub begin_nested_refusal : Tree → ℕ → Option ActionRefusal
begin_nested_refusal tree creator =
    option_or (unless_live (status_of tree creator)) (begin_top_refusal tree)

-- why the action may not commit
abbrev pub commit_refusal : Tree → ℕ → Option ActionRefusal
commit_refusal tree a =
    option_or (unless_live (status_of tree a)) (refused_if (has_live_child tree a) ChildrenLive)

-- why the action may not be aborted
abbrev pub abort_refusal : Tree → ℕ → Option ActionRefusal
abort_refusal tree a = unless_live (status_of tree a)

-- a topaction that isn't nested has no siblings
abbrev pub abort_others_refusal : Tree → ℕ → Option ActionRefusal
abort_others_refusal tree a = option_or (commit_refusal tree a)
    (refused_if (is_none (under_at tree.folded tree.rows a)) NoSiblings)

-- the refusal, if there is one; otherwise the call succeeds, or finds no memory
abbrev pub IsRefusedBy : {T : Type 0} → Option ActionRefusal → Result T ActionError → Type 0
IsRefusedBy (Some refusal) result = result ≡ Err (Refused refusal)
IsRefusedBy None result = IfErr result (λ e. e ≡ OutOfMemory)
