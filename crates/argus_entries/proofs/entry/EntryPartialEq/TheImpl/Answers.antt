-- An answer that tells where two entries say the same is the test's.
use Rattle.argus_entries.specs.{Entry.plain_entry, Decided.entry_answered}
use Rattle.argus_entries.proofs.entry.EntryPartialEq.TheImpl.Goals as goal

pub eq-tells : goal.eq-tells
eq-tells c = entry_answered c.result (plain_entry c.args.self.now) (plain_entry c.args.other.now) c.ensures
