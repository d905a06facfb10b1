-- The proof of the laws that stand on `what_fits`.
use Rattle.std.proofs.{Common.arith, lemmas.Bool.Decides.nat_tests}
use Rattle.argus_journal.proofs.{Fitting.fits_keeps, References.occurring_below}
use Rattle.argus_journal.proofs.laws.what_fits.Goals as goal

pub returns : goal.returns
returns c = grind (arith, nat_tests, fits_keeps, occurring_below)
