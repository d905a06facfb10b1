-- So many lines are there, and fit.
use Rattle.std.proofs.Common.{length, string_bytes, ℕ, ◌+◌, ◌≡◌, ◌≤◌}
use Rattle.argus_embed.specs.JournalLines.{lines_from}
use Rattle.argus_embed.proofs.lines_writing.fitting_lines.Given as goal

abbrev pub invariant-loop-at : goal.invariant-loop-at
invariant-loop-at l =
    (count : ℕ) × (l.at ≡ l.from + count) × (string_bytes l.text ≡ lines_from l.guardian l.from count)
    × (length (string_bytes l.text) ≤ l.most)
