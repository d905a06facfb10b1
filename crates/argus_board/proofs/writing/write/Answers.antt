-- The effect's last pair is written first, so that of two pairs of one object the first counts.
use Rattle.std.proofs.Common.{Option, ap, arith, length, ◌++◌, ◌∙◌, ◌∷◌, ◌≡◌, []}
use Rattle.std.specs.Option.{option_to_list}
use lib.ListN.{length-set}
use Rattle.argus_contents.specs.{declared.content.Content.Content, declared.obj_id.ObjId.ObjId}
use Rattle.argus_board.proofs.Contents.{last_is_needed, write_last}
use Rattle.argus_board.proofs.writing.write.Goals as goal

pub put-requires : goal.put-requires
put-requires c =
    let old = c.loop-object.effect.items in
    let new = c.pop.new.self.items in
    let o = c.in-Some.object in
    let last : old ≡ new ++ (o, c.in-Some.content) ∷ [] =
    c.pop.ensures.items ∙ ap (λ (r : Option (ObjId × Option Content)). new ++ option_to_list r) c.in-Some.is in
    omega (arith, c.loop-object.invariant.1, last_is_needed old new o c.in-Some.content last)

pub loop-object-preserved : goal.loop-object-preserved
loop-object-preserved c =
    let xs = c.loop-object.contents.items in
    let ys = c.put.new.contents.items in
    let old = c.loop-object.effect.items in
    let new = c.pop.new.self.items in
    let o = c.in-Some.object in
    let last : old ≡ new ++ (o, c.in-Some.content) ∷ [] =
    c.pop.ensures.items ∙ ap (λ (r : Option (ObjId × Option Content)). new ++ option_to_list r) c.in-Some.is in (
      write_last xs ys old new o c.in-Some.content last c.put.ensures ∙ c.loop-object.invariant.0,
      omega (
        arith,
        c.loop-object.invariant.1,
        last_is_needed old new o c.in-Some.content last,
        ap length
            c.put.ensures,
        length-set xs o.0 c.in-Some.content,
      ),
    )
