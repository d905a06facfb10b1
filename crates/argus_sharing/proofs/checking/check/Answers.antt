-- Receipts without a fault stand in the journal, each at a number of its own.
use Rattle.std.proofs.Common.{[], map, rules}
use Rattle.argus_journal.specs.Journal.{entries_of, opening_of}
use Rattle.argus_sharing.specs.Receipt.{plain_receipt}
use Rattle.argus_sharing.proofs.Receipts.{fine_apart, fine_stand}
use Rattle.argus_sharing.proofs.checking.check.Goals as goal

pub returns-then-from-made-clause-stand : goal.returns-then-from-made-clause-stand
returns-then-from-made-clause-stand c = fine_stand (opening_of c.args.journal.now) (entries_of c.args.journal.now) []
    (map plain_receipt c.args.receipts.now) c.in_ok-check_receipts.ensures.ok

pub returns-then-from-made-clause-apart : goal.returns-then-from-made-clause-apart
returns-then-from-made-clause-apart c = fine_apart (opening_of c.args.journal.now) (entries_of c.args.journal.now)
    (map plain_receipt c.args.receipts.now) c.in_ok-check_receipts.ensures.ok

pub returns-then-from-made-clause-count : goal.returns-then-from-made-clause-count
returns-then-from-made-clause-count c = search rules
