-- What is found once of a journal.
use Rattle.std.specs.Prelude.{List, reverse}
use Rattle.argus_actions.specs.Tree.{Tree}
use Rattle.argus_audit.specs.{Writes.AreWrites, declared.audit.Audit.Audit, declared.writes.Writes.Writes}
use Rattle.argus_entries.specs.Entry.{PlainEntry}
use Rattle.argus_journal.specs.{Events.history, Opening.Opening}
use Rattle.argus_refinement.specs.TreeRefinement.{IsTree}

-- the actions that it knows
abbrev pub tree_of : Audit → Tree
tree_of audit = audit.tree

-- the writes that it knows
abbrev pub writes_of : Audit → Writes
writes_of audit = audit.writes

-- it was found of the journal with this opening and these entries, the newest first
pub record IsAudit (audit : Audit) (s : Opening) (j : List PlainEntry) : Type 0 where
  pub tree : IsTree (tree_of audit) (history s j)
  pub writes : AreWrites (writes_of audit) (reverse j)
