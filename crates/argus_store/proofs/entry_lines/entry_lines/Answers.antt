use Rattle.std.proofs.Common.{arith, reverse, drop, string_bytes, ◌+◌, ◌-◌, ◌++◌, ◌∙◌, ap, sym, append_assoc}
use Rattle.argus_journal.specs.{EntrySpelling.entry_line, Journal.{entries_of, entry_at, opening_of}}
use Rattle.argus_guardian.specs.Listing.{each_from}
use Rattle.argus_store.specs.Kept.{line_of}
use Rattle.argus_store.proofs.KeptLines.{next_line}
use Rattle.argus_store.proofs.entry_lines.entry_lines.Goals as goal

pub loop-at-preserved : goal.loop-at-preserved
loop-at-preserved c from =
    let s = opening_of c.args.journal.now in let es = entries_of c.args.journal.now in let at = c.loop-at.at in
    let rest = each_from entry_line (at + 1) (drop ((at + 1) - s.first_entry) (reverse es)) in
    let all = c.loop-at.invariant from in (
      omega (arith, all.0),
      all.1 ∙ ap (λ t. string_bytes c.loop-at.text ++ t) (next_line s es at all.0
          (omega (arith, c.loop-at-test.true, c.len-at-end.ensures)))
          ∙ sym (append_assoc (string_bytes c.loop-at.text) (line_of at (entry_at s es at)) rest)
          ∙ ap (λ t. t ++ rest) (sym c.in_ok-append_line.ensures),
    )
