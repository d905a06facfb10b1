-- What contracts see of a receipt caller.
use Rattle.std.specs.{Prelude.map, Option.option_map}
use Rattle.argus_sharing.specs.Receipt.{plain_receipt}
use Rattle.argus_workers.specs.{RunCheck.CheckState, declared.receipt_caller.ReceiptCaller.ReceiptCaller}

-- what a receipt caller has seen
abbrev pub check_state_of : ReceiptCaller → CheckState
check_state_of t = record {
  left = map plain_receipt t.left.now;
  calls = t.calls.items;
  arm = t.arm;
  last = option_map (λ r. (plain_receipt r.now).entry) t.last;
  coenters = t.coenters;
  outcomes = t.outcomes.items;
}
