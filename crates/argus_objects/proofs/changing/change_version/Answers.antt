-- The newest version is changed in place, or a changed copy of what is on top is pushed.
use Rattle.std.proofs.Common.{◌≡◌, ◌-◌, ◌∙◌, refl, ap, arith}
use Rattle.argus_contents.specs.{Answer.plain_answer, Content.plain_option, Change.plain_change}
use Rattle.argus_objects.specs.{declared.version.Version.Version, Object.versions_newest_first}
use Rattle.argus_objects.{specs.CellChanges.newest_content, proofs.Stacks.all_lower}
use Rattle.argus_objects.proofs.{Stacks.none_lower, Changes.{changed_copy, changed_in_place}}
use Rattle.argus_objects.proofs.changing.change_version.Goals.{else-held-gt0-via-then-held-gt0+else-index-a}
use Rattle.argus_objects.proofs.changing.change_version.Goals.{else-held-gt0-via-else-held-gt0}
use Rattle.argus_objects.proofs.changing.change_version.Goals as goal

pub returns-then-index-a-clause-changed : goal.returns-then-index-a-clause-changed
returns-then-index-a-clause-changed c =
    let old : Version = c.index_mut.result.now in
    let new : Version = record { holder = old.holder; content = c.alter_in_place.new.content } in
    changed_in_place plain_answer (plain_change c.args.change.now) (plain_option c.args.base.now) c.args.a
    c.args.versions.now.items
    (c.len-held.result - 1) c.index.result.now old new (omega arith) c.requires.ascending c.index.ensures
    c.if-index-a.true c.index_mut.ensures.value refl c.alter_in_place.result c.alter_in_place.ensures.ok
    c.alter_in_place.ensures.err

pub returns-clause-changed : goal.returns-clause-changed
returns-clause-changed c =
    let vs = c.args.versions.now.items in
    let base = plain_option c.args.base.now in
    let v : Version = record { holder = c.args.a; content = c.in_ok-content.content } in
    let seen : plain_option c.content_on_top.result.now ≡ newest_content base (versions_newest_first vs) =
    c.content_on_top.ensures ∙ ap (λ ws. newest_content base (versions_newest_first ws)) c.as_slice.ensures.value in
    changed_copy plain_answer (plain_change c.args.change.now) base c.args.a vs c.push.new.self.items v
    c.in_ok-content.answer (plain_option c.content_on_top.result.now) c.in_ok-push.ensures.items refl
    (elim c.else-held-gt0.branch [
      | else-held-gt0-via-then-held-gt0+else-index-a w ↦
          all_lower c.args.a vs (c.len-held.result - 1) w.index.result.now (omega arith) c.requires.ascending
          c.requires.newest (λ e. w.if-index-a.false (ap (λ (v : Version). v.holder.0) w.index.ensures ∙ e))
      | else-held-gt0-via-else-held-gt0 w ↦ none_lower c.args.a vs (omega arith)
    ])
    c.in_ok-content.ensures.ok seen
