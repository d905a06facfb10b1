-- What the writes leave when they are run again is what the journal says, in each line of the audit.
use Rattle.argus_listings.proofs.Audits.{audit_same, base_same, versions_same}
use Rattle.argus_listings.proofs.laws.audits_agree_with_stacks.Goals as goal

pub returns-clause-base : goal.returns-clause-base
returns-clause-base c = λ o. base_same c.args.guardian.now c.journal_is_legal.ensures.legal o

pub returns-clause-versions : goal.returns-clause-versions
returns-clause-versions c = λ o. versions_same c.args.guardian.now c.journal_is_legal.ensures.legal o

pub returns-clause-lines : goal.returns-clause-lines
returns-clause-lines c = λ o name. audit_same c.args.guardian.now c.journal_is_legal.ensures.legal o name
