use Rattle.std.proofs.lemmas.{Slice.Eq.strip_prefix_is, Bool.Decides.Decides-eqb}
use Rattle.argus_store.proofs.listing.behind.Goals as goal

pub returns : goal.returns
returns c = strip_prefix_is Decides-eqb c.args.line.now c.args.start.now c.strip_prefix.result
    c.strip_prefix.ensures.cases
