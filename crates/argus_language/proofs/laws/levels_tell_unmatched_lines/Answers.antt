-- The levels tell what the unmatched opening lines tell.
use Rattle.argus_language.proofs.FaultyLines.{levels-tell-unmatched-lines}
use Rattle.argus_language.proofs.laws.levels_tell_unmatched_lines.Goals as goal

pub returns : goal.returns
returns c = levels-tell-unmatched-lines
