-- What a settlement says of a guardian that began without entries.
use Rattle.std.specs.Borrow.{Bor}
use Rattle.std.proofs.Common.{Bool, List, None, Option, Some, [], ap, arith, is_some, length, not, refl}
use Rattle.std.proofs.Common.{slice_get, true, ℕ, ◌+◌, ◌∷◌, ◌≡◌}
use Rattle.argus_values.specs.{contents_declared.content.Content.Content, contents_declared.shape.Shape.Shape}
use Rattle.argus_journal.specs.{Entry.PlainEntry, Folding.next_entry_number, Journal.plain_opened}
use Rattle.argus_journal.specs.{Opening.{Opening, empty}}

-- there are as many receipts as entries, where the seats' calls are as many as either
pub as_many : (s : Opening) (j : List PlainEntry) (start before made n : ℕ) → s ≡ empty → start ≡ 0 → before ≡ 0
    → made ≡ before + n → next_entry_number s j ≡ start + made → n ≡ length j
as_many s j start before made n p q r m e =
    let first : s.first_entry ≡ 0 = ap (λ o. o.first_entry) p in
    omega arith

-- what isn't found says nothing
pub unopened : (o : Option (Bor Shape × Bor (Option Content))) (b : Bool) → is_some o ≡ not b → b ≡ true
    → plain_opened o ≡ None
unopened None b p q = refl
unopened (Some x) b p q = cc

-- without a first object there are none
pub none_at_front : {X : Type 0} (xs : List X) → slice_get xs 0 ≡ None → xs ≡ []
none_at_front [] e = refl
none_at_front (x ∷ xs) e = cc
