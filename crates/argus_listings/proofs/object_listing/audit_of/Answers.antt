-- The guardian's journal has its opening and its entries.
use Rattle.std.proofs.Common.{IfOk, subst, ◌∙◌}
use Rattle.argus_audit.specs.Audit.{IsAudit}
use Rattle.argus_journal.specs.Journal.{entries_of}
use Rattle.argus_listings.proofs.object_listing.audit_of.Goals as goal

pub returns : goal.returns
returns c =
    let view = c.args.guardian.now in
    let opening = c.journal-2.ensures.opening ∙ c.journal.ensures.opening in
    let entries = c.journal-2.ensures.entries ∙ c.journal.ensures.entries in
    subst (λ j. IfOk c.of.result (λ audit. IsAudit audit view.opening j)) entries
    (subst (λ s. IfOk c.of.result (λ audit. IsAudit audit s (entries_of c.journal-2.result.now))) opening c.of.ensures)
