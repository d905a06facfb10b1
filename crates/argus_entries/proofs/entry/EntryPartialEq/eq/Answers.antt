-- The test tells where two entries say the same.
use Rattle.argus_entries.specs.{Entry.plain_entry, Decided.entry_decided}
use Rattle.argus_entries.proofs.entry.EntryPartialEq.eq.Goals as goal

pub returns : goal.returns
returns c = rw c.is_same.ensures (entry_decided (plain_entry c.args.self.now) (plain_entry c.args.other.now))
