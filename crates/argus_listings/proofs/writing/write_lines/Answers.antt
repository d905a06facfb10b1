-- The parts of a listing, one after the other.
use Rattle.std.proofs.Common.{List, ap, subst, string_bytes, sym, ℕ, ◌++◌, ◌∙◌, ◌≡◌}
use Rattle.std.proofs.lemmas.Result.{on_err_weaker, on_ok_weaker}
use Rattle.argus_entries.specs.Entry.{PlainEntry}
use Rattle.argus_journal.specs.{Journal.{entries_of, opening_of}, Opening.Opening, JournalView.JournalView}
use Rattle.argus_listings.proofs.Added.{added_then, cut_before, cut_then, on_err, stops_then}
use Rattle.argus_listings.specs.Listing.{entries_text, length_line, listing_of, objects_text, opening_text}
use Rattle.argus_listings.specs.{Flushing.{Added, Cut}, declared.listing.Listing.Listing}
use Rattle.argus_listings.specs.declared.listing.Listing.TheVariants.{Audit, Journal}
use Rattle.argus_streams.specs.FailStop.{inner_of}
use Rattle.argus_listings.proofs.writing.write_lines.Goals as goal

-- the parts of a journal's listing are those of the guardian's opening and entries
same_journal : (listing : Listing) (names : List (List ℕ)) (journal : JournalView) (s : Opening) (j : List PlainEntry)
    → listing ≡ Journal → s ≡ journal.opening → j ≡ journal.entries
    → opening_text s ++ entries_text s j ≡ listing_of listing names journal
same_journal listing names journal s j e f h =
    ap (λ k. opening_text k ++ entries_text k j) f
    ∙ ap (λ k. opening_text journal.opening ++ entries_text journal.opening k) h
    ∙ ap (λ k. listing_of k names journal) (sym e)

-- the objects and the last line are an audit
same_audit : (listing : Listing) (names : List (List ℕ)) (journal : JournalView) → listing ≡ Audit
    → objects_text Audit names journal ++ length_line journal ≡ listing_of listing names journal
same_audit listing names journal e = ap (λ k. listing_of k names journal) (sym e)

pub returns-in_err-write_opening-in-Journal-clause-cut : goal.returns-in_err-write_opening-in-Journal-clause-cut
returns-in_err-write_opening-in-Journal-clause-cut g c =
    let s = opening_of c.journal-journal.result.now in
    let j = entries_of c.journal-journal.result.now in
    let a = g.W.Write.contents (inner_of c.args.writer.now) in
    let d = g.W.Write.contents (inner_of c.write_opening.new.writer) in
    let t = string_bytes c.args.text.now in
    on_err c.from_residual.result
    (subst (λ x. Cut a t d x) (same_journal c.args.listing c.args.names.now c.args.guardian.now s j c.in-Journal.is
    (c.journal-journal.ensures.opening ∙ c.journal.ensures.opening)
    (c.journal-journal.ensures.entries ∙ c.journal.ensures.entries))
    (cut_before a t d (opening_text s) (entries_text s j) c.in_err-write_opening-in-Journal.ensures.cut))

pub returns-in_ok-write_opening-in-Journal-clause-ok : goal.returns-in_ok-write_opening-in-Journal-clause-ok
returns-in_ok-write_opening-in-Journal-clause-ok g c =
    let s = opening_of c.journal-journal.result.now in
    let j = entries_of c.journal-journal.result.now in
    let a = g.W.Write.contents (inner_of c.args.writer.now) in
    let m = g.W.Write.contents (inner_of c.write_opening.new.writer) in
    let d = g.W.Write.contents (inner_of c.write_entries.new.writer) in
    let t = string_bytes c.args.text.now in
    let n = string_bytes c.write_opening.new.text in
    let u = string_bytes c.write_entries.new.text in
    let P : List ℕ → Type 0 = λ x. Added a t d u x in
    on_ok_weaker c.write_entries.result
    (λ more. subst P (same_journal c.args.listing c.args.names.now c.args.guardian.now s j c.in-Journal.is
    (c.journal-journal.ensures.opening ∙ c.journal.ensures.opening)
    (c.journal-journal.ensures.entries ∙ c.journal.ensures.entries))
    (added_then a t m n d u (opening_text s) (entries_text s j) c.in_ok-write_opening-in-Journal.ensures.ok more))
    c.write_entries.ensures.ok

pub returns-in_ok-write_opening-in-Journal-clause-cut : goal.returns-in_ok-write_opening-in-Journal-clause-cut
returns-in_ok-write_opening-in-Journal-clause-cut g c =
    let s = opening_of c.journal-journal.result.now in
    let j = entries_of c.journal-journal.result.now in
    let a = g.W.Write.contents (inner_of c.args.writer.now) in
    let m = g.W.Write.contents (inner_of c.write_opening.new.writer) in
    let d = g.W.Write.contents (inner_of c.write_entries.new.writer) in
    let t = string_bytes c.args.text.now in
    let n = string_bytes c.write_opening.new.text in
    let P : List ℕ → Type 0 = λ x. Cut a t d x in
    on_err_weaker c.write_entries.result
    (λ cut. subst P (same_journal c.args.listing c.args.names.now c.args.guardian.now s j c.in-Journal.is
    (c.journal-journal.ensures.opening ∙ c.journal.ensures.opening)
    (c.journal-journal.ensures.entries ∙ c.journal.ensures.entries))
    (cut_then a t m n d (opening_text s) (entries_text s j) c.in_ok-write_opening-in-Journal.ensures.ok cut))
    c.write_entries.ensures.cut

pub returns-in_err-write_audits-in-Audit-clause-cut : goal.returns-in_err-write_audits-in-Audit-clause-cut
returns-in_err-write_audits-in-Audit-clause-cut g c =
    let journal = c.args.guardian.now in
    let a = g.W.Write.contents (inner_of c.args.writer.now) in
    let d = g.W.Write.contents (inner_of c.write_audits.new.writer) in
    let t = string_bytes c.args.text.now in
    let P : List ℕ → Type 0 = λ x. Cut a t d x in
    on_err c.from_residual-in_err-write_audits-in-Audit.result
    (subst P (same_audit c.args.listing c.args.names.now journal c.in-Audit.is)
    (cut_before a t d (objects_text Audit c.args.names.now journal) (length_line journal)
    c.in_err-write_audits-in-Audit.ensures.cut))

pub returns-in_err-append_length-in-Audit-clause-cut : goal.returns-in_err-append_length-in-Audit-clause-cut
returns-in_err-append_length-in-Audit-clause-cut g c =
    let journal = c.args.guardian.now in
    let a = g.W.Write.contents (inner_of c.args.writer.now) in
    let d = g.W.Write.contents (inner_of c.write_audits.new.writer) in
    let t = string_bytes c.args.text.now in
    let u = string_bytes c.write_audits.new.text in
    let P : List ℕ → Type 0 = λ x. Cut a t d x in
    on_err c.from_residual-in_err-append_length-in-Audit.result
    (subst P (same_audit c.args.listing c.args.names.now journal c.in-Audit.is)
    (stops_then a t d u (objects_text Audit c.args.names.now journal) (length_line journal)
    c.in_ok-write_audits-in-Audit.ensures.ok))
