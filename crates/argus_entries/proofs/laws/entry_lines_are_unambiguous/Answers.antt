-- A line is its number, its call and its reply, each told from every other.
use Rattle.argus_entries.proofs.Lines.{one_line}
use Rattle.argus_entries.proofs.laws.entry_lines_are_unambiguous.Goals as goal

pub returns : goal.returns
returns c = one_line
