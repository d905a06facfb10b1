-- The bytes so far stand in the first word.
use Rattle.argus_language.proofs.Cutting.{Passed}
use Rattle.argus_language.proofs.words.word_len.Given as goal

abbrev pub invariant-loop-i : goal.invariant-loop-i
invariant-loop-i l = Passed l.bytes l.i
