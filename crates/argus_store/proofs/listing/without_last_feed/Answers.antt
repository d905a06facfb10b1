use Rattle.std.proofs.Common.{codes, sym, ◌∙◌, Some, None}
use Rattle.std.proofs.lemmas.{Slice.Eq.strip_suffix_is, Bool.Decides.Decides-eqb}
use Rattle.argus_store.proofs.Chains.{feed_off, no_feed}
use Rattle.argus_store.proofs.listing.without_last_feed.Goals as goal

pub returns-in-Some : goal.returns-in-Some
returns-in-Some c ls is = feed_off ls c.in-Some.lines.now (sym (strip_suffix_is Decides-eqb c.args.text.now
    (codes "\n") (Some c.in-Some.lines) c.in-Some.ensures.cases) ∙ is)

pub returns-in-None : goal.returns-in-None
returns-in-None c ls is = no_feed ls c.args.text.now (strip_suffix_is Decides-eqb c.args.text.now (codes "\n") None
    c.in-None.ensures.cases) is
