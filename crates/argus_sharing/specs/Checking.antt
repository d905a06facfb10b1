-- Whether receipts and seats agree with a journal, and why not.
use Rattle.std.specs.{List.{IsDistinct, list_any}, Option.option_or, Prelude.{◌==◌, ◌∷◌, ◌≡◌}}
use Rattle.std.specs.Prelude.{Bool, List, None, Option, Some, false, if◌then◌else◌, map, nat_lt, not, ℕ, [], ◌++◌, ◌-◌}
use Rattle.argus_entries.specs.{Entry.PlainEntry, Same.same_entry}
use Rattle.argus_journal.specs.{Folding.next_entry_number, Journal.entry_at, Opening.Opening}
use Rattle.argus_sharing.specs.{Receipt.PlainReceipt, declared.settle_fault.SettleFault.SettleFault}
use Rattle.argus_sharing.specs.declared.settle_fault.SettleFault.TheVariants as fault

-- the journal's entry of that number is the receipt's
abbrev pub Stands : Opening → List PlainEntry → PlainReceipt → Type 0
Stands s j r = entry_at s j r.at ≡ Some r.entry

-- no two receipts have the same number
abbrev pub AreApart : List PlainReceipt → Type 0
AreApart receipts = IsDistinct (λ x y. x == y) (map (λ r. r.at) receipts)

-- a test whether there is an entry, and it is this one
abbrev pub is_entry : PlainEntry → Option PlainEntry → Bool
is_entry e None = false
is_entry e (Some f) = same_entry f e

-- what is wrong with a receipt, if anything, given the numbers of the receipts before it
abbrev pub receipt_fault : Opening → List PlainEntry → List ℕ → PlainReceipt → Option SettleFault
receipt_fault s j earlier r =
    if nat_lt r.at s.first_entry then Some (fault.Folded r.at)
    else (if not (is_entry r.entry (entry_at s j r.at)) then Some (fault.NotThere r.at)
    else (if list_any (λ at. at == r.at) earlier then Some (fault.Twice r.at) else None))

-- the first fault of receipts, if any, given the numbers of those before them
abbrev pub first_fault : Opening → List PlainEntry → List ℕ → List PlainReceipt
    → Option SettleFault
first_fault s j earlier [] = None
first_fault s j earlier (r ∷ rs) =
    option_or (receipt_fault s j earlier r) (first_fault s j (earlier ++ r.at ∷ []) rs)

-- how many entries the journal has after the first n
abbrev pub entries_since : ℕ → Opening → List PlainEntry → ℕ
entries_since start s j = next_entry_number s j - start

-- the seats made more or fewer calls than there are entries
abbrev pub count_fault : ℕ → ℕ → Option SettleFault
count_fault journal seats =
    if journal == seats then None else Some (fault.Count journal seats)

-- the first fault of receipts and seats, if any, given how many entries the journal had at the
-- start and how many calls the seats made since
abbrev pub settle_fault : Opening → List PlainEntry → ℕ → ℕ → List PlainReceipt
    → Option SettleFault
settle_fault s j start made receipts =
    option_or (first_fault s j [] receipts) (count_fault (entries_since start s j) made)

-- what is returned if this is the first fault: it, or `OutOfMemory`
abbrev pub IsSettleAnswer : Option SettleFault → SettleFault → Type 0
IsSettleAnswer found fault.OutOfMemory = Unit {0}
IsSettleAnswer found f = found ≡ Some f
