-- Receipts without a fault are in the journal, each at a number of its own.
use Rattle.std.specs.{List.{AllByRecursion, IsDistinct, list_any}, Option.option_or}
use Rattle.std.proofs.Common.{All, Bool, List, None, Option, Some, [], ap, false, drop, drop-cons, get_or}
use Rattle.std.proofs.Common.{if◌then◌else◌, length, map, nat_lt, not, refl, suc, sym, true, ℕ, ◌++◌, ◌<◌, ◌==◌, ◌∙◌}
use Rattle.std.proofs.{Common.{◌∷◌, ◌≡◌, ◌||◌}, lemmas.List.Elements.{All-cons, All-nil}}
use Rattle.std.proofs.lemmas.List.Folds.{list_any-append}
use Rattle.argus_entries.specs.{Decided.entry_decided, Entry.PlainEntry}
use Rattle.argus_journal.specs.{Journal.entry_at, Opening.Opening}
use Rattle.argus_sharing.specs.Checking.{AreApart, IsSettleAnswer, Stands, first_fault, is_entry, receipt_fault}
use Rattle.argus_sharing.specs.{Receipt.{PlainReceipt, plain_receipt}, declared.receipt.Receipt.Receipt}
use Rattle.argus_sharing.specs.declared.settle_fault.SettleFault.{SettleFault}
use Rattle.argus_sharing.specs.declared.settle_fault.SettleFault.TheVariants as fault

or_none : {X : Type 0} (a b : Option X) → option_or a b ≡ None → (a ≡ None) × (b ≡ None)
or_none None b e = (refl, e)
or_none (Some x) b e = cc

no_fault : {X : Type 0} (a b c : Bool) (x y z : X)
    → (if a then Some x else (if not b then Some y else (if c then Some z else None))) ≡ None
    → (b ≡ true) × (c ≡ false)
no_fault true b c x y z e = cc
no_fault false false c x y z e = cc
no_fault false true true x y z e = cc
no_fault false true false x y z e = (refl, refl)

entry_is : (e : PlainEntry) (found : Option PlainEntry) → is_entry e found ≡ true → found ≡ Some e
entry_is e None h = cc
entry_is e (Some f) h = ap (λ x. Some x) ((entry_decided f e).0 h)

-- receipts without a fault stand in the journal
pub fine_stand : (s : Opening) (j : List PlainEntry) (earlier : List ℕ) (rs : List PlainReceipt)
    → first_fault s j earlier rs ≡ None → All (Stands s j) rs
fine_stand s j earlier [] e = All-nil (Stands s j)
fine_stand s j earlier (r ∷ rs) e =
    let (p, q) = or_none (receipt_fault s j earlier r) (first_fault s j (earlier ++ r.at ∷ []) rs) e in
    let (here, new) = no_fault (nat_lt r.at s.first_entry) (is_entry r.entry (entry_at s j r.at))
    (list_any (λ at. at == r.at) earlier) _ _ _ p in
    All-cons (Stands s j) r rs (entry_is r.entry (entry_at s j r.at) here) (fine_stand s j (earlier ++ r.at ∷ []) rs q)

none_of_two : (a b : Bool) → (a || b) ≡ false → (a ≡ false) × (b ≡ false)
none_of_two false b e = (refl, e)
none_of_two true b e = cc

none_of_one : (b : Bool) → (b || false) ≡ false → b ≡ false
none_of_one false e = refl
none_of_one true e = cc

not_at : (earlier : List ℕ) (x y : ℕ) → list_any (λ at. at == y) (earlier ++ x ∷ []) ≡ false
    → (list_any (λ at. at == y) earlier ≡ false) × ((x == y) ≡ false)
not_at earlier x y e =
    let (p, q) = none_of_two (list_any (λ at. at == y) earlier) (list_any (λ at. at == y) (x ∷ []))
    (sym (list_any-append (λ at. at == y) earlier (x ∷ [])) ∙ e) in
    (p, none_of_one (x == y) q)

apart_from : (earlier : List ℕ) (x : ℕ) (ys : List ℕ)
    → AllByRecursion (λ y. list_any (λ at. at == y) (earlier ++ x ∷ []) ≡ false) ys
    → AllByRecursion (λ y. list_any (λ at. at == y) earlier ≡ false) ys × AllByRecursion (λ y. (x == y) ≡ false) ys
apart_from earlier x [] h = (tt, tt)
apart_from earlier x (y ∷ ys) (h, hs) =
    let (p, q) = not_at earlier x y h in
    let (ps, qs) = apart_from earlier x ys hs in
    ((p, ps), (q, qs))

fine_new : (s : Opening) (j : List PlainEntry) (earlier : List ℕ) (rs : List PlainReceipt)
    → first_fault s j earlier rs ≡ None
    → AllByRecursion (λ y. list_any (λ at. at == y) earlier ≡ false) (map (λ r. r.at) rs) × AreApart rs
unfolding IsDistinct
fine_new s j earlier [] e = (tt, tt)
fine_new s j earlier (r ∷ rs) e =
    let (p, q) = or_none (receipt_fault s j earlier r) (first_fault s j (earlier ++ r.at ∷ []) rs) e in
    let (here, new) = no_fault (nat_lt r.at s.first_entry) (is_entry r.entry (entry_at s j r.at))
    (list_any (λ at. at == r.at) earlier) _ _ _ p in
    let (others, apart) = fine_new s j (earlier ++ r.at ∷ []) rs q in
    let (old, far) = apart_from earlier r.at (map (λ r. r.at) rs) others in
    ((new, old), (far, apart))

-- receipts without a fault stand at different numbers
pub fine_apart : (s : Opening) (j : List PlainEntry) (rs : List PlainReceipt)
    → first_fault s j [] rs ≡ None → AreApart rs
fine_apart s j rs e = (fine_new s j [] rs e).1

-- a fault of one receipt is the first of the list that it heads
pub fault_first : (found rest : Option SettleFault) (f : SettleFault) → IsSettleAnswer found f
    → IsSettleAnswer (option_or found rest) f
fault_first found rest fault.OutOfMemory h = tt
fault_first found rest (fault.NotThere at) h = ap (λ x. option_or x rest) h
fault_first found rest (fault.Twice at) h = ap (λ x. option_or x rest) h
fault_first found rest (fault.Count journal seats) h = ap (λ x. option_or x rest) h
fault_first found rest (fault.Folded at) h = ap (λ x. option_or x rest) h

-- a list is its element at a place, and what stands behind it
behind : (rs : List Receipt) (i : ℕ) (r : Receipt) → i < length rs → r ≡ get_or rs i r
    → drop i rs ≡ r ∷ drop (suc i) rs
behind rs i r b e = drop-cons rs i r b ∙ ap (λ x. x ∷ drop (suc i) rs) (sym e)

module _ (s : Opening) (j : List PlainEntry) (all : List Receipt) where
  -- what is at fault in all receipts is at fault in those from a place on
  abbrev pub FaultFrom : List ℕ → ℕ → Type 0
  FaultFrom earlier i =
      first_fault s j [] (map plain_receipt all) ≡ first_fault s j earlier (map plain_receipt (drop i all))

  first_at : (earlier : List ℕ) (i : ℕ) (r : Receipt) → i < length all → r ≡ get_or all i r → FaultFrom earlier i
      → first_fault s j [] (map plain_receipt all) ≡ option_or (receipt_fault s j earlier (plain_receipt r))
      (first_fault s j (earlier ++ r.at ∷ []) (map plain_receipt (drop (suc i) all)))
  first_at earlier i r b e h = h ∙ ap (λ x. first_fault s j earlier (map plain_receipt x)) (behind all i r b e)

  pub fault_at : (earlier : List ℕ) (i : ℕ) (r : Receipt) (f : SettleFault) → i < length all → r ≡ get_or all i r
      → FaultFrom earlier i → IsSettleAnswer (receipt_fault s j earlier (plain_receipt r)) f
      → IsSettleAnswer (first_fault s j [] (map plain_receipt all)) f
  fault_at earlier i r f b e h p = rw (first_at earlier i r b e h) (fault_first
      (receipt_fault s j earlier (plain_receipt r))
      (first_fault s j (earlier ++ r.at ∷ []) (map plain_receipt (drop (suc i) all))) f p)
