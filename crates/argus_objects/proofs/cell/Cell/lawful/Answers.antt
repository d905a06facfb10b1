-- The two tests are the two halves of the definition.
use Rattle.std.{proofs.Common.{◌≡◌, ◌&&◌, true, List, sym, ◌∙◌, ap}, specs.List.list_all}
use Rattle.argus_actions.specs.declared.action_id.ActionId.{ActionId}
use Rattle.argus_objects.specs.{declared.version.Version.Version, Object.{holders, versions_newest_first}}
use Rattle.argus_objects.{specs.Rules.{are_related, is_chain, is_related}, proofs.Stacks.related_versions}
use Rattle.argus_objects.proofs.cell.Cell.lawful.Goals as goal

pub returns-then-are_chained : goal.returns-then-are_chained
returns-then-are_chained c =
    let t = c.args.tree.now in
    let rs = c.self.inside.readers.items in
    let vs = c.self.inside.versions.items in
    let same : c.as_slice-versions.result.now ≡ vs = c.as_slice-versions.ensures.value in
    let chained : is_chain t (holders (versions_newest_first vs)) ≡ true =
    ap (λ ws. is_chain t (holders (versions_newest_first ws))) (sym same)
    ∙ (sym c.are_chained.ensures ∙ c.if-are_chained.true) in
    rw (← c.self.view_is)
    (c.are_all_related.ensures
    ∙ (ap (λ (ws : List Version). list_all (λ (x : ActionId). list_all (λ (v : Version). are_related t x v.holder) ws)
    c.as_slice.result.now) same
    ∙ (ap (λ (xs : List ActionId). list_all (λ (x : ActionId). list_all (λ (v : Version). are_related t x v.holder) vs)
    xs) c.as_slice.ensures
    ∙ (sym (related_versions t vs rs)
    ∙ sym (ap (λ b. b && list_all (is_related t (holders (versions_newest_first vs))) rs) chained)))))
