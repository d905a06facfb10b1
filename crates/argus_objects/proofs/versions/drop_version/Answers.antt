-- The versions that stay are those of other holders.
use Rattle.std.proofs.{Common.{not, eqb, sym, ◌∙◌, ap, rules, tests}, lemmas.Fn.filter_same}
use Rattle.argus_actions.specs.declared.action_id.ActionId.{ActionId}
use Rattle.argus_objects.specs.{declared.version.Version.Version, Object.versions_newest_first}
use Rattle.argus_objects.proofs.Stacks.{newest_filter}
use Rattle.argus_objects.proofs.versions.drop_version.Goals as goal

pub returns-clause-versions : goal.returns-clause-versions
returns-clause-versions c =
    ap versions_newest_first (filter_same _ (λ (v : Version). not (eqb v.holder.0 c.args.a.0)) _
    (λ x b q k. search (rules, tests)) _ _ c.retain.ensures.filtered)
    ∙ sym (newest_filter (λ (x : ActionId). not (eqb x.0 c.args.a.0)) c.args.versions.now.items)
