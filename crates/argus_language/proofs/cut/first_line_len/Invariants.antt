-- No byte so far is a line feed, so that all of them are in the first line.
use Rattle.std.proofs.Common.{◌≡◌, take, drop}
use Rattle.argus_language.specs.Lines.{lines_of}
use Rattle.argus_language.proofs.Cutting.{glue}
use Rattle.argus_language.proofs.cut.first_line_len.Given as goal

abbrev pub invariant-loop-i : goal.invariant-loop-i
invariant-loop-i l = lines_of l.bytes ≡ glue (take l.i l.bytes) (lines_of (drop l.i l.bytes))
