-- What was read is what the lines so far say.
use Rattle.std.proofs.Common.{◌≡◌, ◌≤◌, ◌-◌, length, take, drop}
use Rattle.argus_language.specs.{Fault.{FineBefore, position_at, position_behind}, Lines.lines_of, Script.Declares}
use Rattle.argus_language.specs.{Reading.{IsSound, levels_of, lines_so_far}, declared.limits.TheConstants.MAX_LINES}
use Rattle.argus_language.proofs.Faults.{ToldOf}
use Rattle.argus_language.proofs.parsing.parse.Given as goal

abbrev pub invariant-loop-rest : goal.invariant-loop-rest
invariant-loop-rest l = record {
  left : drop l.lines (lines_of l.bytes) ≡ lines_of l.rest;
  position : position_behind (take l.lines (lines_of l.bytes))
      ≡ position_at l.lines (length l.bytes - length l.rest) (levels_of l.reading.blocks.items);
  objects : Declares (take l.lines (lines_of l.bytes)) l.reading.objects;
  said : ToldOf (take l.lines (lines_of l.bytes)) l.reading.objects
      (lines_so_far l.reading.blocks.items l.reading.steps.items);
  sound : IsSound l.reading.blocks.items l.reading.steps.items;
  fine : FineBefore (lines_of l.bytes) l.lines;
  most : l.lines ≤ MAX_LINES;
  within : length l.rest ≤ length l.bytes;
}

abbrev pub decreases-loop-rest : goal.decreases-loop-rest
decreases-loop-rest l = length l.rest
