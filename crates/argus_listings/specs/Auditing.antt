-- What the listing of an audit needs.
use Rattle.std.specs.{Borrow.Bor, Prelude.{None, Option, Some, false, true, ◌≡◌}}
use Rattle.argus_audit.specs.Audit.{IsAudit}
use Rattle.argus_audit.specs.declared.audit.Audit as found
use Rattle.argus_journal.specs.JournalView.{JournalView}
use Rattle.argus_listings.specs.declared.listing.Listing.{Listing}
use Rattle.argus_listings.specs.declared.listing.Listing.TheVariants.{Audit, Bases, Journal, Stacks}

-- it has what was found of the journal, and the other listings need nothing
abbrev pub HasAudit : Listing → Option (Bor found.Audit) → JournalView → Type 0
HasAudit Bases audit journal = Unit {0}
HasAudit Stacks audit journal = Unit {0}
HasAudit Journal audit journal = Unit {0}
HasAudit Audit None journal = false ≡ true
HasAudit Audit (Some audit) journal = IsAudit audit.now journal.opening journal.entries
