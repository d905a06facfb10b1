use Rattle.std.proofs.Common.{◌≡◌, ◌+◌, ◌++◌, ◌∙◌, ap, arith, string_bytes}
use Rattle.argus_journal.specs.{Call.commit, Entry.plain_entry, EntrySpelling.entry_spelling}
use Rattle.argus_journal.specs.JournalView.{entry_of, next_entry}
use Rattle.argus_store.specs.Summing.{entries_in}
use Rattle.argus_store.proofs.KeptLines.{appended}
use Rattle.argus_store.proofs.appending.append_ready.Goals as goal

pub returns : goal.returns
returns g c = record {
  appended = λ j was has clean.
      let lines = string_bytes c.write_entry.new.out in let journal = c.args.ready.now.journal in
      let call = commit c.args.ready.now.action in
      let written : lines ≡ string_bytes c.args.lines
      ++ entry_spelling c.entry-at.result.0 (plain_entry c.entry-at.result.1) = c.in_ok-write_entry.ensures.written in
      let is : lines ≡ string_bytes c.args.lines ++ entry_spelling (next_entry journal) (entry_of journal call) =
      written ∙ ap (λ n. string_bytes c.args.lines ++ entry_spelling n (plain_entry c.entry-at.result.1)) c.entry-at.ensures.number
      ∙ ap (λ e. string_bytes c.args.lines ++ entry_spelling (next_entry journal) e) c.entry-at.ensures.entry in
      let counted : c.entries_in.result ≡ entries_in lines =
      c.entries_in.ensures ∙ ap entries_in (c.as_bytes.ensures.value ∙ c.as_str.ensures.value) in
      let count : c.args.end.next + entries_in lines ≡ next_entry journal + 1 = omega (
        arith,
        counted,
        c.in-Some.ensures,
        c.if-next-at.true,
        c.if-next-at-eq1.true,
        c.entry-at.ensures.number,
      ) in
      let changes = rw c.as_str-2.ensures.value at (c.append.ensures.changes j was.log clean) in
      appended g.S.Store _ j was call (string_bytes c.args.lines) lines has is count c.append.new.self c.append.result changes
      c.end_of.result c.end_of.ensures.made c.end_of.ensures.unmade (rw c.as_str-2.ensures.value at c.append.ensures.end);
}
