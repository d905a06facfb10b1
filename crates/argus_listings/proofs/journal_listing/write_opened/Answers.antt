-- One object after another is found, its line made, and the text written out if it is long.
use Rattle.std.proofs.{Common.{arith, string_bytes, sym}, lemmas.Option.slice_get_within}
use Rattle.argus_contents.specs.Content.{plain_option}
use Rattle.argus_journal.specs.Journal.{opening_of}
use Rattle.argus_listings.proofs.{Added.{left_starts, on_err}, Each.{each_cut, each_ends, each_next, each_stops}}
use Rattle.argus_listings.specs.Listing.{each_from, opened_line}
use Rattle.argus_streams.specs.FailStop.{inner_of}
use Rattle.argus_listings.proofs.journal_listing.write_opened.Goals as goal

pub loop-shape-init : goal.loop-shape-init
loop-shape-init g c = record {
  fine = c.requires.fine;
  left = left_starts (g.W.Write.contents (inner_of c.args.writer.now)) (string_bytes c.args.text.now)
      (each_from opened_line 0 (opening_of c.args.journal.now).objects);
}

pub returns-in_err-append_opened-clause-cut : goal.returns-in_err-append_opened-clause-cut
returns-in_err-append_opened-clause-cut g c =
    on_err c.from_residual.result
    (each_stops opened_line (opening_of c.args.journal.now).objects c.loop-shape.o c.loop-shape.o
    (g.W.Write.contents (inner_of c.args.writer.now)) (string_bytes c.args.text.now)
    (g.W.Write.contents (inner_of c.loop-shape.writer)) (string_bytes c.loop-shape.text)
    (each_from opened_line 0 (opening_of c.args.journal.now).objects) c.loop-shape.invariant.left)

pub returns-in_err-flush_long-clause-cut : goal.returns-in_err-flush_long-clause-cut
returns-in_err-flush_long-clause-cut g c =
    on_err c.from_residual-in_err-flush_long.result
    (each_cut opened_line (opening_of c.args.journal.now).objects c.loop-shape.o c.loop-shape.o
    (g.W.Write.contents (inner_of c.args.writer.now)) (string_bytes c.args.text.now)
    (g.W.Write.contents (inner_of c.loop-shape.writer)) (string_bytes c.loop-shape.text)
    (each_from opened_line 0 (opening_of c.args.journal.now).objects) c.loop-shape.invariant.left
    (c.in-Some.shape.now, plain_option c.in-Some.content.now) (sym c.in-Some.ensures.object)
    (string_bytes c.append_opened.new.text) c.in_ok-append_opened.ensures
    (g.W.Write.contents (inner_of c.flush_long.new.writer)) c.in_err-flush_long.ensures.cut)

pub overflow_add-o : goal.overflow_add-o
overflow_add-o g c =
    let low = slice_get_within (opening_of c.args.journal.now).objects c.loop-shape.o
    (c.in-Some.shape.now, plain_option c.in-Some.content.now) (sym c.in-Some.ensures.object) in
    omega (arith, low, c.requires.few)

pub loop-shape-smaller : goal.loop-shape-smaller
loop-shape-smaller g c =
    let low = slice_get_within (opening_of c.args.journal.now).objects c.loop-shape.o
    (c.in-Some.shape.now, plain_option c.in-Some.content.now) (sym c.in-Some.ensures.object) in
    omega (arith, low)

pub loop-shape-preserved : goal.loop-shape-preserved
loop-shape-preserved g c = record {
  fine = c.in_ok-flush_long.ensures.fine;
  left = each_next opened_line (opening_of c.args.journal.now).objects c.loop-shape.o c.loop-shape.o
      (g.W.Write.contents (inner_of c.args.writer.now)) (string_bytes c.args.text.now)
      (g.W.Write.contents (inner_of c.loop-shape.writer)) (string_bytes c.loop-shape.text)
      (each_from opened_line 0 (opening_of c.args.journal.now).objects) c.loop-shape.invariant.left
      (c.in-Some.shape.now, plain_option c.in-Some.content.now) (sym c.in-Some.ensures.object)
      (string_bytes c.append_opened.new.text) c.in_ok-append_opened.ensures
      (g.W.Write.contents (inner_of c.flush_long.new.writer)) (string_bytes c.flush_long.new.text)
      c.in_ok-flush_long.ensures.ok;
}

pub returns-clause-ok : goal.returns-clause-ok
returns-clause-ok g c =
    each_ends opened_line (opening_of c.args.journal.now).objects c.loop-shape.o c.loop-shape.o
    (g.W.Write.contents (inner_of c.args.writer.now)) (string_bytes c.args.text.now)
    (g.W.Write.contents (inner_of c.loop-shape.writer)) (string_bytes c.loop-shape.text)
    (each_from opened_line 0 (opening_of c.args.journal.now).objects) c.loop-shape.invariant.left
    (sym c.in_default.ensures.object)
