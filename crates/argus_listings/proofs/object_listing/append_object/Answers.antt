-- An audit has what it needs.
use Rattle.std.proofs.{Common.subst, lemmas.Bool.false≢true}
use Rattle.argus_listings.specs.{Auditing.HasAudit, declared.listing.Listing.TheVariants.Audit}
use Rattle.argus_listings.proofs.object_listing.append_object.Goals as goal

pub append_audit-requires-clause-audit : goal.append_audit-requires-clause-audit
append_audit-requires-clause-audit c =
    let journal = c.args.guardian.now in
    subst (λ q. HasAudit Audit q journal) c.in-Some.is
    (subst (λ k. HasAudit k c.args.audit journal) c.in-Audit.is c.requires.audit)

pub returns-in-None : goal.returns-in-None
returns-in-None c =
    let journal = c.args.guardian.now in
    absurd (false≢true (subst (λ q. HasAudit Audit q journal) c.in-None.is
    (subst (λ k. HasAudit k c.args.audit journal) c.in-Audit.is c.requires.audit)))
