-- One entry after another is found, its line made, and the text written out if it is long.
use Rattle.std.proofs.Common.{None, Some, arith, length, reverse, string_bytes, ◌+◌, ◌-◌, ◌≡◌, ◌≤◌}
use Rattle.std.proofs.lemmas.List.{length-reverse}
use Rattle.argus_entries.specs.{Entry.plain_entry, EntrySpelling.entry_line}
use Rattle.argus_journal.specs.Journal.{entries_of, opening_of}
use Rattle.argus_listings.proofs.Added.{on_err}
use Rattle.argus_listings.proofs.Each.{each_cut, each_ends, each_next, each_past, each_starts, each_stops, entry_there}
use Rattle.argus_listings.specs.Listing.{entries_text}
use Rattle.argus_streams.specs.FailStop.{inner_of}
use Rattle.argus_listings.proofs.journal_listing.write_entries.Goals as goal

pub loop-at-init : goal.loop-at-init
loop-at-init g c =
    let s = opening_of c.args.journal.now in let j = entries_of c.args.journal.now in record {
      fine = c.requires;
      from = omega (arith, c.first_entry-at.ensures.first);
      left = each_starts entry_line (reverse j) s.first_entry c.first_entry-at.result
          (g.W.Write.contents (inner_of c.args.writer.now)) (string_bytes c.args.text.now)
          c.first_entry-at.ensures.first;
    }

pub returns-in_default-clause-ok : goal.returns-in_default-clause-ok
returns-in_default-clause-ok g c =
    let s = opening_of c.args.journal.now in let j = entries_of c.args.journal.now in
    each_ends entry_line (reverse j) (c.loop-at.at - s.first_entry) c.loop-at.at
    (g.W.Write.contents (inner_of c.args.writer.now)) (string_bytes c.args.text.now)
    (g.W.Write.contents (inner_of c.loop-at.writer)) (string_bytes c.loop-at.text)
    (entries_text s j) c.loop-at.invariant.left
    (entry_there s j c.loop-at.at None c.loop-at.invariant.from c.in_default.ensures)

pub returns-in_err-append_entry-clause-cut : goal.returns-in_err-append_entry-clause-cut
returns-in_err-append_entry-clause-cut g c =
    let s = opening_of c.args.journal.now in let j = entries_of c.args.journal.now in
    on_err c.from_residual.result (each_stops entry_line (reverse j) (c.loop-at.at - s.first_entry) c.loop-at.at
    (g.W.Write.contents (inner_of c.args.writer.now)) (string_bytes c.args.text.now)
    (g.W.Write.contents (inner_of c.loop-at.writer)) (string_bytes c.loop-at.text)
    (entries_text s j) c.loop-at.invariant.left)

pub returns-in_err-flush_long-clause-cut : goal.returns-in_err-flush_long-clause-cut
returns-in_err-flush_long-clause-cut g c =
    let s = opening_of c.args.journal.now in let j = entries_of c.args.journal.now in
    let e = plain_entry c.in-Some.entry.now in
    on_err c.from_residual-in_err-flush_long.result
    (each_cut entry_line (reverse j) (c.loop-at.at - s.first_entry) c.loop-at.at
    (g.W.Write.contents (inner_of c.args.writer.now)) (string_bytes c.args.text.now)
    (g.W.Write.contents (inner_of c.loop-at.writer)) (string_bytes c.loop-at.text)
    (entries_text s j) c.loop-at.invariant.left
    e (entry_there s j c.loop-at.at (Some e) c.loop-at.invariant.from c.in-Some.ensures)
    (string_bytes c.append_entry.new.text) c.in_ok-append_entry.ensures
    (g.W.Write.contents (inner_of c.flush_long.new.writer)) c.in_err-flush_long.ensures.cut)

pub loop-at-preserved : goal.loop-at-preserved
loop-at-preserved g c =
    let s = opening_of c.args.journal.now in let j = entries_of c.args.journal.now in
    let e = plain_entry c.in-Some.entry.now in
    let a = g.W.Write.contents (inner_of c.args.writer.now) in
    let d = g.W.Write.contents (inner_of c.flush_long.new.writer) in
    let next : (c.loop-at.at - s.first_entry) + 1 ≡ (c.loop-at.at + 1) - s.first_entry =
    omega (arith, c.loop-at.invariant.from) in record {
      fine = c.in_ok-flush_long.ensures.fine;
      from = omega (arith, c.loop-at.invariant.from);
      left = rw (← next) (each_next entry_line (reverse j) (c.loop-at.at - s.first_entry) c.loop-at.at
          a (string_bytes c.args.text.now)
          (g.W.Write.contents (inner_of c.loop-at.writer)) (string_bytes c.loop-at.text)
          (entries_text s j) c.loop-at.invariant.left
          e (entry_there s j c.loop-at.at (Some e) c.loop-at.invariant.from c.in-Some.ensures)
          (string_bytes c.append_entry.new.text) c.in_ok-append_entry.ensures
          d (string_bytes c.flush_long.new.text) c.in_ok-flush_long.ensures.ok);
    }

pub returns-clause-ok : goal.returns-clause-ok
returns-clause-ok g c =
    let s = opening_of c.args.journal.now in let j = entries_of c.args.journal.now in
    let past : length (reverse j) ≤ c.loop-at.at - s.first_entry =
    rw (length-reverse j) (omega (arith, c.loop-at-test.false, c.len-at-end.ensures)) in
    each_past entry_line (reverse j) (c.loop-at.at - s.first_entry) c.loop-at.at
    (g.W.Write.contents (inner_of c.args.writer.now)) (string_bytes c.args.text.now)
    (g.W.Write.contents (inner_of c.loop-at.writer)) (string_bytes c.loop-at.text)
    (entries_text s j) c.loop-at.invariant.left past
