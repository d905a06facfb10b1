-- Of a legal journal, what the entries tell of an owner is what its history says.
use Rattle.std.proofs.Common.{◌∙◌}
use Rattle.argus_journal.{specs.Journal.{entries_of, opening_of}, proofs.OwnersByEntries.owner_told}
use Rattle.argus_journal.proofs.owning.owner_of.Goals as goal

pub returns : goal.returns
returns c =
    let journal = c.args.journal.now in
    c.owner_told.ensures ∙ owner_told (opening_of journal) (entries_of journal) c.requires c.args.a.0
