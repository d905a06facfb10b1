-- The newest version is changed in place, or a changed copy of what is on top is pushed.
use Rattle.std.proofs.Common.{◌≡◌, ◌-◌, [], ◌∷◌, ◌++◌, ◌∙◌, refl, ap, arith}
use Rattle.argus_contents.specs.{Answer.done_or, Content.plain_option, Change.plain_change}
use Rattle.argus_objects.specs.{declared.version.Version.Version, Object.versions_newest_first}
use Rattle.argus_objects.{specs.CellChanges.newest_content, proofs.Stacks.all_lower}
use Rattle.argus_objects.proofs.{Stacks.none_lower, Changes.{changed_copy, changed_in_place}}
use Rattle.argus_objects.proofs.changing.change_version_by_reference.Goals.{else-held-gt0-via-then-held-gt0+else-index-a}
use Rattle.argus_objects.proofs.changing.change_version_by_reference.Goals.{else-held-gt0-via-else-held-gt0}
use Rattle.argus_objects.proofs.changing.change_version_by_reference.Goals as goal

pub returns-then-index-a-clause-changed : goal.returns-then-index-a-clause-changed
returns-then-index-a-clause-changed c =
    let old : Version = c.index_mut.result.now in
    let new : Version = record { holder = old.holder; content = c.alter_by_reference.new.content } in
    changed_in_place done_or (plain_change c.args.change.now) (plain_option c.args.base.now) c.args.a
    c.args.versions.now.items
    (c.len-held.result - 1) c.index.result.now old new (omega arith) c.requires.ascending c.index.ensures
    c.if-index-a.true c.index_mut.ensures.value refl c.alter_by_reference.result c.alter_by_reference.ensures.ok
    c.alter_by_reference.ensures.err

pub returns-clause-changed : goal.returns-clause-changed
returns-clause-changed c =
    let vs = c.args.versions.now.items in
    let base = plain_option c.args.base.now in
    let v : Version = record { holder = c.args.a; content = c.alter_by_reference-2.new.content } in
    let kept : c.as_slice.result.now ≡ vs = c.as_slice.ensures.value ∙ c.reserve_version.ensures.items in
    let seen : plain_option c.in_ok-content.content ≡ newest_content base (versions_newest_first vs) =
    c.in_ok-content.ensures ∙ (c.content_on_top.ensures
    ∙ ap (λ ws. newest_content base (versions_newest_first ws)) kept) in
    changed_copy done_or (plain_change c.args.change.now) base c.args.a vs c.push_reserved.new.self.items v
    c.in_ok-refusal.refusal (plain_option c.in_ok-content.content)
    (c.push_reserved.ensures.items ∙ ap (λ ws. ws ++ v ∷ []) c.reserve_version.ensures.items) refl
    (elim c.else-held-gt0.branch [
      | else-held-gt0-via-then-held-gt0+else-index-a w ↦
          all_lower c.args.a vs (c.len-held.result - 1) w.index.result.now (omega arith) c.requires.ascending
          c.requires.newest (λ e. w.if-index-a.false (ap (λ (v : Version). v.holder.0) w.index.ensures ∙ e))
      | else-held-gt0-via-else-held-gt0 w ↦ none_lower c.args.a vs (omega arith)
    ])
    c.in_ok-refusal.ensures.ok seen
