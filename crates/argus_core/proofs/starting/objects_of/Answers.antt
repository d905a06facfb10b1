-- One more object, with its copies and no holder.
use Rattle.std.proofs.{Common.arith, lemmas.{Grind.common_steps, List.Elements.All-append}}
use Rattle.argus_core.proofs.Started.{IsFree, one_free}
use Rattle.argus_core.proofs.starting.objects_of.Goals as goal

pub loop-shape-preserved : goal.loop-shape-preserved
loop-shape-preserved c =
    let items = c.in_ok-push.ensures.items in
    let before = c.loop-shape.invariant.0 in
    let shape = c.in_ok-shape.ensures in
    let base = c.in_ok-base.ensures in (
      grind (arith, common_steps),
      rw items (All-append IsFree c.loop-shape.objects.items _ c.loop-shape.invariant.1
          (one_free _ (c.new.ensures.readers, c.new.ensures.versions))),
    )
