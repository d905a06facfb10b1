-- The copies so far are those of the objects so far.
use Rattle.std.proofs.Common.{map, take, ◌≡◌}
use Rattle.argus_board.specs.Effects.{content_of_object, plain_contents}
use Rattle.argus_board.proofs.looking.copies_of.Given as goal

abbrev pub invariant-loop-object : goal.invariant-loop-object
invariant-loop-object l =
    plain_contents l.copies.items ≡ map (λ o. content_of_object (plain_contents l.contents) o.0)
    (take l.object-index l.objects)
