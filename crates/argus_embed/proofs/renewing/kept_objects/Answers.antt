use Rattle.std.proofs.{Common.{[], ap, arith, map, sym, ◌++◌, ◌∙◌, ◌∷◌}, lemmas.List.map_push}
use Rattle.std.specs.Option.{option_map}
use Rattle.argus_journal.specs.{Folding.fold, Opening.plain_object}
use Rattle.argus_embed.proofs.KeptObjects.{all_kept, none_left, one_more}
use Rattle.argus_embed.proofs.renewing.kept_objects.Goals.{in-Some+in_ok-push, in_default}
use Rattle.argus_embed.proofs.renewing.kept_objects.Goals as goal

pub loop-o-preserved : goal.loop-o-preserved
loop-o-preserved c =
    elim c.match-branch-2.branch [
      | in-Some+in_ok-push w ↦
          let kept = (fold c.args.guardian.now.opening c.args.guardian.now.entries).objects in
          let found = ap (λ o. option_map plain_object o) (sym w.in-Some.is) ∙ c.in_ok-object.ensures in
          ap (λ v. map plain_object v.items) w.objects-is ∙ ap (λ l. map plain_object l) w.in_ok-push.ensures.items
          ∙ map_push plain_object c.loop-o.objects.items w.in-Some.object
          ∙ ap (λ l. l ++ plain_object w.in-Some.object ∷ []) c.loop-o.invariant
          ∙ one_more kept c.loop-o.o (plain_object w.in-Some.object) (sym found)
      | in_default w ↦
          let none = ap (λ o. option_map plain_object o) (sym w.in_default.is) ∙ c.in_ok-object.ensures in
          absurd (none_left c.args.guardian.now c.loop-o.o c.objects-o-end.result none c.loop-o-test.true
          c.objects-o-end.ensures)
    ]

pub returns : goal.returns
returns c =
    c.loop-o.invariant ∙ all_kept c.args.guardian.now c.loop-o.o c.objects-o-end.result
    (omega (arith, c.loop-o-test.false, c.loop-o.auto.o-end)) c.objects-o-end.ensures
