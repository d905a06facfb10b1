-- Without the memory for what is found first nothing is written.
use Rattle.std.proofs.Common.{string_bytes}
use Rattle.argus_listings.proofs.Added.{left_starts, left_stops, on_err}
use Rattle.argus_listings.specs.{Listing.objects_text, declared.listing.Listing.TheVariants.Audit}
use Rattle.argus_streams.specs.FailStop.{inner_of}
use Rattle.argus_listings.proofs.object_listing.write_audits.Goals as goal

pub returns-in_err-audit-clause-cut : goal.returns-in_err-audit-clause-cut
returns-in_err-audit-clause-cut g c =
    let old = g.W.Write.contents (inner_of c.args.writer.now) in
    let text = string_bytes c.args.text.now in
    let whole = objects_text Audit c.args.names.now c.args.guardian.now in
    on_err c.from_residual.result (left_stops old text old text whole whole (left_starts old text whole))
