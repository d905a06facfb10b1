-- What is at fault in all receipts is at fault in those that are left.
use Rattle.argus_journal.specs.Journal.{entries_of, opening_of}
use Rattle.argus_sharing.proofs.Receipts.{FaultFrom}
use Rattle.argus_sharing.proofs.checking.check_receipts.Given as goal

abbrev pub invariant-loop-receipt : goal.invariant-loop-receipt
invariant-loop-receipt l = FaultFrom (opening_of l.journal)
    (entries_of l.journal) l.receipts l.earlier.keys l.receipt-index
