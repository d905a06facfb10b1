-- The journal is listable, so its listing is taken back.
use Rattle.std.proofs.Common.{ap, subst}
use Rattle.argus_guardian.specs.ResumeLaws.{IsListable}
use Rattle.argus_embed.specs.Embedded.{EmbeddedState}
use Rattle.argus_embed.proofs.Listings.{taken_back}
use Rattle.argus_embed.proofs.embedded.Embedded.listing_is_resumed.Goals as goal

pub returns-clause-resumed : goal.returns-clause-resumed
returns-clause-resumed c =
    let seen = ap (λ (s : EmbeddedState). s.journal) c.self.view_is in
    taken_back c.listings_are_taken_back.ensures.taken c.listings_are_taken_back.ensures.whole
    c.listings_have_no_fault.ensures c.args.self.now.journal (subst IsListable seen c.guardians_are_listable.ensures)
