-- The digits passed so far are the number.
use Rattle.std.proofs.Common.{◌≡◌, ◌≤◌, ◌++◌, length}
use Rattle.std.specs.{Fmt.decimal, Str.IsUtf8}
use Rattle.argus_texts.proofs.number.number.Given as goal

abbrev pub invariant-loop-next : goal.invariant-loop-next
invariant-loop-next l = record {
  least : l.least ≤ l.number;
  most : l.number ≤ l.most;
  read : l.fn.text ≡ decimal l.number ++ l.rest;
  utf8 : IsUtf8 l.rest;
}

abbrev pub decreases-loop-next : goal.decreases-loop-next
decreases-loop-next l = length l.rest
