-- One name after another is taken, its object's lines made, and the text written out if it is long.
use Rattle.std.proofs.Common.{arith, string_bytes, rules}
use Rattle.argus_listings.proofs.{Added.on_err, Each.{each_cut, each_next, each_stops, taken}}
use Rattle.argus_listings.specs.Listing.{names_within, object_text, objects_text}
use Rattle.argus_streams.specs.FailStop.{inner_of}
use Rattle.argus_listings.proofs.object_listing.write_objects.Goals as goal

pub returns-in_err-append_object-clause-cut : goal.returns-in_err-append_object-clause-cut
returns-in_err-append_object-clause-cut g c =
    let journal = c.args.guardian.now in
    on_err c.from_residual.result
    (each_stops (object_text c.args.listing journal) (names_within journal c.args.names.now)
    c.loop-name.name-index c.loop-name.o
    (g.W.Write.contents (inner_of c.args.writer.now)) (string_bytes c.args.text.now)
    (g.W.Write.contents (inner_of c.loop-name.writer)) (string_bytes c.loop-name.text)
    (objects_text c.args.listing c.args.names.now journal) c.loop-name.invariant.left)

pub returns-in_err-flush_long-clause-cut : goal.returns-in_err-flush_long-clause-cut
returns-in_err-flush_long-clause-cut g c =
    let journal = c.args.guardian.now in
    on_err c.from_residual-in_err-flush_long.result
    (each_cut (object_text c.args.listing journal) (names_within journal c.args.names.now)
    c.loop-name.name-index c.loop-name.o
    (g.W.Write.contents (inner_of c.args.writer.now)) (string_bytes c.args.text.now)
    (g.W.Write.contents (inner_of c.loop-name.writer)) (string_bytes c.loop-name.text)
    (objects_text c.args.listing c.args.names.now journal) c.loop-name.invariant.left
    c.name-item.result (taken c.declared_names-name-items.result.now (names_within journal c.args.names.now)
    c.loop-name.name-index c.name-item.result c.declared_names-name-items.ensures.within
    c.loop-name-test.true c.name-item.is) (string_bytes c.append_object.new.text) c.in_ok-append_object.ensures
    (g.W.Write.contents (inner_of c.flush_long.new.writer)) c.in_err-flush_long.ensures.cut)

pub loop-name-preserved : goal.loop-name-preserved
loop-name-preserved g c =
    let journal = c.args.guardian.now in record {
      fine = c.in_ok-flush_long.ensures.fine;
      number = omega (arith, c.loop-name.invariant.number);
      left = each_next (object_text c.args.listing journal) (names_within journal c.args.names.now)
          c.loop-name.name-index c.loop-name.o
          (g.W.Write.contents (inner_of c.args.writer.now)) (string_bytes c.args.text.now)
          (g.W.Write.contents (inner_of c.loop-name.writer)) (string_bytes c.loop-name.text)
          (objects_text c.args.listing c.args.names.now journal) c.loop-name.invariant.left
          c.name-item.result (taken c.declared_names-name-items.result.now (names_within journal c.args.names.now)
          c.loop-name.name-index c.name-item.result c.declared_names-name-items.ensures.within
          c.loop-name-test.true c.name-item.is) (string_bytes c.append_object.new.text) c.in_ok-append_object.ensures
          (g.W.Write.contents (inner_of c.flush_long.new.writer)) (string_bytes c.flush_long.new.text)
          c.in_ok-flush_long.ensures.ok;
    }

pub overflow_add-o : goal.overflow_add-o
overflow_add-o g c =
    omega (
      arith,
      c.loop-name.invariant.number,
      c.loop-name-test.true,
      c.declared_names-name-items.ensures.few,
    )

pub loop-name-init : goal.loop-name-init
loop-name-init g c = search rules
