-- Of the versions the newest decides, since no holder is past an action that may read.
use Rattle.std.proofs.{Common.{◌≡◌, Bool, List, eqb, sym, ◌∙◌, ap, arith}, lemmas.Grind.common_steps}
use Rattle.std.specs.List.{list_any}
use Rattle.argus_actions.specs.declared.action_id.ActionId.{ActionId}
use Rattle.argus_objects.specs.{declared.version.Version.Version, Object.versions_newest_first, CellChanges.has_version}
use Rattle.argus_objects.proofs.{Changes.holders_up_to, Stacks.has_newest}
use Rattle.argus_objects.proofs.cell.Cell.is_held_by.Goals as goal

pub is_newest-requires-clause-newest : goal.is_newest-requires-clause-newest
is_newest-requires-clause-newest c = grind (arith, common_steps, holders_up_to)

-- whether the action has a version
answered : (a : ActionId) (b : Bool) (vs ws : List Version) → ws ≡ vs
    → b ≡ list_any (λ (v : Version). eqb v.holder.0 a.0) ws → has_version a (versions_newest_first vs) ≡ b
answered a b vs ws same is = has_newest a vs ∙ (ap (list_any (λ (v : Version). eqb v.holder.0 a.0)) (sym same) ∙ sym is)

pub returns-then-is_newest : goal.returns-then-is_newest
returns-then-is_newest c = grind (arith, common_steps, answered)

pub returns-else-is_newest : goal.returns-else-is_newest
returns-else-is_newest c = grind (arith, common_steps, answered)
