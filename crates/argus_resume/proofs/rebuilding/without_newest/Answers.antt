-- One more of the oldest entries is made again.
use Rattle.std.proofs.Common.{Some, ap, arith, drop, length, ◌+◌, ◌-◌, ◌∙◌, ◌≡◌}
use Rattle.argus_entries.specs.{Call.PlainCall, Entry.plain_entry}
use Rattle.argus_journal.specs.{Journal.{entries_of, opening_of}, JournalView.after}
use Rattle.argus_resume.proofs.Rebuilt.{entry_missing, entry_there, rebuilt_all, rebuilt_next, some_entries}
use Rattle.argus_resume.proofs.rebuilding.without_newest.Goals as goal

pub loop-at-preserved : goal.loop-at-preserved
loop-at-preserved c =
    let s = opening_of c.journal-journal.result.now in
    let j = entries_of c.journal-journal.result.now in
    let e = plain_entry c.in-Some.entry.now in
    let i = c.loop-at.invariant in
    let next : (c.loop-at.at - s.first_entry) + 1 ≡ (c.loop-at.at + 1) - s.first_entry = omega (arith, i.from) in
    let more = rebuilt_next s j (c.loop-at.at - s.first_entry) e c.loop-at.again c.call.new.self
    c.journal-journal.ensures.legal (entry_there s j c.loop-at.at (Some e) i.from c.in-Some.ensures) i.opening i.entries
    (c.in_ok-call-2.ensures.ok ∙ ap (λ (k : PlainCall). after c.loop-at.again k) c.in_ok-call.ensures) in
    record { from = omega (arith, i.from); opening = more.0; entries = more.1 ∙ ap (λ k. drop (length j - k) j) next }

pub returns-in_default : goal.returns-in_default
returns-in_default c =
    let s = opening_of c.journal-journal.result.now in
    let j = entries_of c.journal-journal.result.now in
    let i = c.loop-at.invariant in
    absurd (entry_missing s j c.loop-at.at i.from
    (omega (arith, i.from, c.loop-at-test.true, c.len-at-end.ensures)) c.in_default.ensures)

pub returns : goal.returns
returns c =
    let s = opening_of c.journal-journal.result.now in
    let j = entries_of c.journal-journal.result.now in
    let i = c.loop-at.invariant in
    let same : j ≡ c.args.guardian.now.entries = c.journal-journal.ensures.entries ∙ c.journal.ensures.entries in
    let some = some_entries c.args.guardian.now.entries c.requires in
    rebuilt_all c.args.guardian.now c.loop-at.again s j (c.loop-at.at - s.first_entry)
    (c.journal-journal.ensures.opening ∙ c.journal.ensures.opening) same i.opening i.entries (omega (
      arith,
      i.from,
      c.loop-at-test.false,
      c.loop-at.auto.at-end,
      c.len-at-end.ensures,
      c.first_entry-at.ensures.first,
      some,
      ap length same,
    ))
