-- What was left in the text was written, or a front of it.
use Rattle.std.proofs.{Common.string_bytes, lemmas.Result.on_err_weaker}
use Rattle.argus_listings.proofs.Added.{front_poured, poured}
use Rattle.argus_listings.specs.Listing.{listing_of}
use Rattle.argus_streams.specs.FailStop.{inner_of}
use Rattle.argus_listings.proofs.writing.write_listing.Goals as goal

pub returns-clause-written : goal.returns-clause-written
returns-clause-written g c =
    let old = g.W.Write.contents (inner_of c.args.writer.now) in
    let mid = g.W.Write.contents (inner_of c.write_lines.new.writer) in
    let new = g.W.Write.contents (inner_of c.flush.new.writer) in
    let text = string_bytes c.new-text.result in
    let pending = string_bytes c.write_lines.new.text in
    let listing = listing_of c.args.listing c.args.names.now c.args.guardian.now in (
      poured c.flush.result old text mid pending new (string_bytes c.flush.new.text) listing c.new-text.ensures.bytes
          c.in_ok-write_lines.ensures.ok c.flush.ensures.ok c.flush.ensures.empty,
      on_err_weaker c.flush.result (front_poured old text mid pending new listing c.new-text.ensures.bytes
          c.in_ok-write_lines.ensures.ok) c.flush.ensures.cut,
    )
