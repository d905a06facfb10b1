-- The lines so far, and those of the entries that are left.
use Rattle.std.proofs.Common.{◌≡◌, ◌≤◌, ◌-◌, ◌++◌, drop, reverse, string_bytes}
use Rattle.argus_journal.specs.{EntrySpelling.entry_line, Journal.{entries_of, opening_of}}
use Rattle.argus_guardian.specs.Listing.{each_from}
use Rattle.argus_store.proofs.entry_lines.entry_lines.Given as goal

abbrev pub invariant-loop-at : goal.invariant-loop-at
invariant-loop-at l =
    let first = (opening_of l.journal).first_entry in let all = reverse (entries_of l.journal) in first ≤ l.from
    → (first ≤ l.at) × (each_from entry_line l.from (drop (l.from - first) all)
    ≡ string_bytes l.text ++ each_from entry_line l.at (drop (l.at - first) all))
