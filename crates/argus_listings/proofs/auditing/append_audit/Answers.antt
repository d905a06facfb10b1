-- The base's line and the versions' lines are those of the audit.
use Rattle.std.proofs.{Common.{map, string_bytes, ◌∙◌}, lemmas.Result.IfOk-equal}
use Rattle.argus_core.specs.Objects.{version_pair}
use Rattle.argus_journal.specs.{Journal.{entries_of, opening_of}, Legal.Legal, JournalFacts.versions_of}
use Rattle.argus_listings.proofs.Audits.{audited, told_there}
use Rattle.argus_listings.proofs.auditing.append_audit.Goals as goal

pub returns-in-Some : goal.returns-in-Some
returns-in-Some c =
    let view = c.args.guardian.now in
    let journal = c.journal-journal.result.now in
    let opening = c.journal-journal.ensures.opening ∙ c.journal.ensures.opening in
    let entries = c.journal-journal.ensures.entries ∙ c.journal.ensures.entries in
    let legal : Legal view.opening view.entries = rw (← opening, ← entries) c.journal-journal.ensures.legal in
    let told = told_there view c.args.o.0 (map version_pair c.in-Some.versions.now)
    (versions_of view.opening view.entries c.args.o.0) c.requires.there c.in-Some.ensures in
    IfOk-equal c.append_versions_again.result _ _ _ c.append_versions_again.ensures
    (audited view legal c.args.o.0 c.args.name.now (opening_of journal) (entries_of journal) c.in-Some.versions.now
    (string_bytes c.args.text.now) (string_bytes c.append_base_again.new.text) opening entries told
    c.in_ok-append_base_again.ensures)

pub append_base_again-requires-clause-audit : goal.append_base_again-requires-clause-audit
append_base_again-requires-clause-audit c =
    let opening = c.journal-journal.ensures.opening ∙ c.journal.ensures.opening in
    let entries = c.journal-journal.ensures.entries ∙ c.journal.ensures.entries in
    rw (opening, entries) c.requires.audit

pub append_versions_again-requires-clause-audit : goal.append_versions_again-requires-clause-audit
append_versions_again-requires-clause-audit c =
    let opening = c.journal-journal.ensures.opening ∙ c.journal.ensures.opening in
    let entries = c.journal-journal.ensures.entries ∙ c.journal.ensures.entries in
    rw (opening, entries) c.requires.audit
