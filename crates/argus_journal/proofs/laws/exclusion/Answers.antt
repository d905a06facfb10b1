-- The proof of the laws that stand on `exclusion`.
use Rattle.std.proofs.{Common.{List, ap, arith, sym, true, ℕ, ◌++◌, ◌+◌, ◌∙◌, ◌≡◌}, lemmas.List.map-append}
use Rattle.argus_entries.specs.Entry.{PlainEntry}
use Rattle.argus_model.{specs.{Holders.{readers, writers}, Numbers.contains}, proofs.Lawful.lawful_orderly}
use Rattle.argus_model.proofs.{LockRules.holders_live, Theorems.{one_above_the_other, writers_in_line}}
use Rattle.argus_journal.specs.{Entries.entries, Events.history, Numbering.in_program, Opening.{Opening, model_opening}}
use Rattle.argus_journal.{specs.JournalFacts.{readers_of, writers_of}, proofs.{Legal.lawful, NextEntry.readers_above}}
use Rattle.argus_journal.proofs.{NextEntry.writers_above, Shifted.{contains_in_program, no_base-append}}
use Rattle.argus_journal.proofs.laws.exclusion.Goals as goal

-- a writer, and a holder of either kind, in the history's numbers
writer : (s : Opening) (j : List PlainEntry) (o x : ℕ) → contains (writers_of s j o) x ≡ true
    → contains (writers entries (history s j) o) (x + 1) ≡ true
writer s j o x m = sym (contains_in_program (writers entries (history s j) o) x (writers_above (history s j) o)) ∙ m

holder : (s : Opening) (j : List PlainEntry) (o x : ℕ) → contains (readers_of s j o ++ writers_of s j o) x ≡ true
    → contains (readers entries (history s j) o ++ writers entries (history s j) o) (x + 1) ≡ true
holder s j o x m =
    let h = history s j in
    let rs = readers entries h o in
    let ws = writers entries h o in
    sym (contains_in_program (rs ++ ws) x (no_base-append rs ws (readers_above h o) (writers_above h o)))
    ∙ ap (λ xs. contains xs x) (map-append in_program rs ws) ∙ m

pub returns : goal.returns
returns c = record {
  related = λ s j o x y l m n.
      one_above_the_other entries (model_opening s) (history s j) o (x + 1) (y + 1) (lawful s j l) (writer s j o x m)
      (holder s j o y n);
  chain = λ s j o x y l m n lt.
      writers_in_line entries (model_opening s) (history s j) o (x + 1) (y + 1) (lawful s j l) (writer s j o x m)
      (writer s j o y n) (omega (arith, lt));
  live = λ s j o x l m.
      holders_live entries (history s j) (lawful_orderly entries (model_opening s) (history s j) (lawful s j l)) o
      (x + 1)
      (holder s j o x m);
}
