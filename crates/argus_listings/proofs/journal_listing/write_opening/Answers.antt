-- The first line was appended, and then the lines of the objects.
use Rattle.std.proofs.{Common.{List, subst, string_bytes, ℕ}, lemmas.Result.{on_err_weaker, on_ok_weaker}}
use Rattle.argus_journal.specs.Journal.{opening_of}
use Rattle.argus_listings.proofs.Added.{added_then, cut_then, left_starts, left_stops, on_err, text_added}
use Rattle.argus_listings.proofs.Each.{opening_there}
use Rattle.argus_listings.specs.{Listing.{each_from, folded_line, opened_line, opening_text}, Flushing.{Added, Cut}}
use Rattle.argus_streams.specs.FailStop.{inner_of}
use Rattle.argus_listings.proofs.journal_listing.write_opening.Goals as goal

pub returns-clause-ok : goal.returns-clause-ok
returns-clause-ok g c =
    let s = opening_of c.args.journal.now in
    let a = g.W.Write.contents (inner_of c.args.writer.now) in
    let d = g.W.Write.contents (inner_of c.write_opened.new.writer) in
    let t = string_bytes c.args.text.now in
    let m = string_bytes c.append_folded.new.text in
    let u = string_bytes c.write_opened.new.text in
    let line = folded_line c.first_entry-2.result c.first_action.result in
    let rest = each_from opened_line 0 s.objects in
    let P : List ℕ → Type 0 = λ x. Added a t d u x in
    on_ok_weaker c.write_opened.result (λ more. subst P
    (opening_there s c.first_entry.result c.first_entry-2.result c.first_action.result c.first_entry.ensures.first
    c.if-first_entry-eq0.false c.first_entry-2.ensures.first c.first_action.ensures.first)
    (added_then a t a m d u line rest (text_added a t m line c.in_ok-append_folded.ensures) more))
    c.write_opened.ensures.ok

pub returns-clause-cut : goal.returns-clause-cut
returns-clause-cut g c =
    let s = opening_of c.args.journal.now in
    let a = g.W.Write.contents (inner_of c.args.writer.now) in
    let d = g.W.Write.contents (inner_of c.write_opened.new.writer) in
    let t = string_bytes c.args.text.now in
    let m = string_bytes c.append_folded.new.text in
    let line = folded_line c.first_entry-2.result c.first_action.result in
    let rest = each_from opened_line 0 s.objects in
    let P : List ℕ → Type 0 = λ x. Cut a t d x in
    on_err_weaker c.write_opened.result (λ cut. subst P
    (opening_there s c.first_entry.result c.first_entry-2.result c.first_action.result c.first_entry.ensures.first
    c.if-first_entry-eq0.false c.first_entry-2.ensures.first c.first_action.ensures.first)
    (cut_then a t a m d line rest (text_added a t m line c.in_ok-append_folded.ensures) cut)) c.write_opened.ensures.cut

pub returns-in_err-append_folded-clause-cut : goal.returns-in_err-append_folded-clause-cut
returns-in_err-append_folded-clause-cut g c =
    let a = g.W.Write.contents (inner_of c.args.writer.now) in
    let t = string_bytes c.args.text.now in
    let whole = opening_text (opening_of c.args.journal.now) in
    on_err c.from_residual.result (left_stops a t a t whole whole (left_starts a t whole))
