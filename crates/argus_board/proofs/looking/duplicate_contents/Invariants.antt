-- The copies so far say what the contents so far say.
use Rattle.std.proofs.Common.{take, ◌≡◌}
use Rattle.argus_board.specs.Effects.{plain_contents}
use Rattle.argus_board.proofs.looking.duplicate_contents.Given as goal

abbrev pub invariant-loop-content : goal.invariant-loop-content
invariant-loop-content l = plain_contents l.copies.items ≡ plain_contents (take l.content-index l.contents)
