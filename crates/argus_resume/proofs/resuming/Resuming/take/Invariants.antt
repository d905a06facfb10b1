-- The listing is longer by the first bytes of the text.
use Rattle.std.proofs.Common.{length, take, ◌++◌, ◌-◌, ◌≡◌, ◌≤◌}
use Rattle.argus_resume.specs.{JournalText.journal_text, Taking.line_count}
use Rattle.argus_resume.proofs.resuming.Resuming.take.Given as goal

abbrev pub invariant-loop-bytes : goal.invariant-loop-bytes
invariant-loop-bytes l = record {
  within : l.bytes ≤ length l.text;
  text : journal_text l.self ≡ journal_text l.initial.self ++ take l.bytes l.text;
  lines : l.lines ≡ line_count (take l.bytes l.text);
}

abbrev pub decreases-loop-bytes : goal.decreases-loop-bytes
decreases-loop-bytes l = length l.text - l.bytes
