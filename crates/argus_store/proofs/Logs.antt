-- From one log to the next: what holds of a database and of a store with the lines, and of one that is as it was.
use Rattle.std.proofs.Common.{◌≡◌, ◌≤◌, ◌<◌, ◌+◌, ◌==◌, if◌then◌else◌, ℕ, ℤ, pos, List, [], ◌∷◌, ◌++◌, arith}
use Rattle.std.proofs.Common.{IsTrue, true, false, fold, sym, ap, subst, ◌∙◌, Less, int_cmp}
use Rattle.std.proofs.{lemmas.Cmp.int_cmp_total, lemmas.Int.ints}
use Rattle.std.specs.List.{AllByRecursion}
use Rattle.sqlite.specs.{Tree.Trees, Effect.Database, State.{State, HasCleanDisk, Survives}}
use Rattle.sqlite_keyed.proofs.ListLemmas.{all_weaker}
use Rattle.argus_store.specs.{Tables.log_schema, Store.{HasLog, Leaves}, Summing.after_line_byte}
use Rattle.argus_store.specs.Journal.{Batch, Journal, a_batch, with_batch, HoldsRows, HoldsLog, AreBelow, AreRising}
use Rattle.argus_store.specs.Journal.{first_of, number_of}
use Rattle.argus_store.specs.declared.{end.End.End, change.Change.Change, change.Change.TheVariants.{Append, Fold}}
use Rattle.argus_store.specs.{End.{EndsAt, end_after}, Changing.{Suits, changed, end_with}}

all_last : {X : Type 0} (P : X → Type 0) (xs : List X) (x : X) → AllByRecursion P xs → P x
    → AllByRecursion P (xs ++ x ∷ [])
all_last P [] x all h = (h, tt)
all_last P (y ∷ ys) x all h = (all.0, all_last P ys x all.1 h)

rising_last : (bs : List Batch) (b : Batch) → AreRising first_of bs → AreBelow b.first bs
    → AreRising first_of (bs ++ b ∷ [])
rising_last [] b up below = (tt, tt)
rising_last (c ∷ bs) b up below = (all_last _ bs b up.0 below.0, rising_last bs b up.1 below.1)

below_next : (bs : List Batch) (first next : ℤ) → int_cmp first next ≡ Less → AreBelow first bs → AreBelow next bs
below_next bs first next more = all_weaker _ _ (λ b h. int_cmp_total.trans b.first first next h more) bs

-- a batch at the log's end, which has an entry
longer : (db : Trees) (j : Journal) (b : Batch) (next : ℤ) → b.first ≡ j.next → int_cmp b.first next ≡ Less
    → AreRising first_of j.batches → AreBelow j.next j.batches → AreRising number_of j.opening
    → HoldsRows db (with_batch j b next) → HoldsLog db (with_batch j b next)
longer db j b next at more up below lines rows =
    let under : AreBelow b.first j.batches = subst (λ n. AreBelow n j.batches) (sym at) below in
    record {
      rows = rows;
      rising = rising_last j.batches b up under;
      below = all_last _ j.batches b
          (below_next j.batches b.first next more under) more;
      lines = lines;
    }

-- what was clean later was clean before
pub was_clean : {old new : State} {P : Trees → Type 0} → Survives old new P → HasCleanDisk new → HasCleanDisk old
was_clean s clean = omega (arith, clean, s.clean)

-- a store whose database holds the log, all of it committed
pub has_log : (s : State) (j : Journal) (db : Database) → db.schema ≡ log_schema → HoldsLog db.trees j
    → IsTrue s.is_open → s.in_transaction ≡ false → s.now ≡ db → s.committed ≡ db → HasLog s j
has_log s j db schema holds is_open autocommit now committed = record {
  is_open = is_open;
  autocommit = autocommit;
  schema = ap (λ (d : Database). d.schema) now ∙ schema;
  holds = subst (λ (d : Database). HoldsLog d.trees j) (sym now) holds;
  committed = committed ∙ sym now;
}

-- while a store is open, a crash leaves its last commit
pub settled : (s : State) (j : Journal) → ((db : Trees) → s.may_leave db → db ≡ s.committed.trees) → HasLog s j
    → Leaves s j
settled s j law has db left = subst (λ t. HoldsLog t j) (sym
    (law db left ∙ ap (λ (d : Database). d.trees) has.committed)) has.holds

-- a store that is as it was
pub unchanged : (old new : State) (j : Journal) → HasLog old j → IsTrue new.is_open → new.in_transaction ≡ false
    → new.now ≡ old.now → new.committed ≡ old.committed → HasLog new j
unchanged old new j was is_open autocommit now committed = has_log new j old.now was.schema was.holds is_open
    autocommit now (committed ∙ was.committed)

at_least : (n : ℕ) (xs : List ℕ) → n ≤ fold after_line_byte n xs
at_least n [] = omega arith
at_least n (x ∷ xs) = elim (x == 10) as (λ t. n ≤ fold after_line_byte (if t then n + 1 else n) xs) [
  | true ↦ omega (arith, at_least (n + 1) xs)
  | false ↦ at_least n xs
]

-- a batch has an entry
goes_up : (name : List ℕ) (e : End) (lines : List ℕ) → e.next < (end_after name e lines).next
goes_up name e lines = omega (arith, at_least 1 lines)

-- the rows of a log that ended here, with the lines, are the log with the lines
pub has_lines : (change : Change) (before db : Trees) (j : Journal) (name : List ℕ) (e : End) (lines : List ℕ)
    → EndsAt j name e → HoldsLog before j → HoldsRows db (changed change j e lines (end_with change name e lines))
    → HoldsLog db (changed change j e lines (end_with change name e lines))
has_lines Append before db j name e lines at was rows =
    let a = end_after name e lines in
    let more : int_cmp (pos e.next) (pos a.next) ≡ Less = let up = goes_up name e lines in grind (arith, ints) in
    longer db j (a_batch (pos e.next) lines (pos a.sum)) (pos a.next) (sym at.next_is) more was.rising was.below
    was.lines rows
has_lines Fold before db j name e lines at was rows =
    record { rows = rows; rising = tt; below = tt; lines = (tt, tt) }

-- a database can hold both numbers
pub bounded : (change : Change) (name : List ℕ) (e : End) (lines : List ℕ) → Suits change name e lines
    → (e.next ≤ 9223372036854775807) × ((end_with change name e lines).next ≤ 9223372036854775807)
bounded Append name e lines suits = (omega (arith, goes_up name e lines, suits), suits)
bounded Fold name e lines suits = (suits.0, suits.0)
