-- The lines of the entries that a log hasn't got, and its listing with them.
use Rattle.std.proofs.Common.{◌≡◌, ◌≤◌, ◌<◌, ◌⊎◌, ℕ, ◌+◌, ◌-◌, ◌++◌, List, [], ◌∷◌, suc, refl, sym, ap, arith, ◌∙◌}
use Rattle.std.proofs.Common.{append_assoc, append-nil, drop, drop-cons, length, reverse, cond, false, inl, inr}
use Rattle.std.proofs.Common.{nat_lt, Option, None, Some, Ok, Err, IfOk, IfSome, IsErr, OnErr, OnOk}
use Rattle.std.proofs.lemmas.Option.{slice_get_cases}
use Rattle.std.proofs.lemmas.List.{drop-append-le, length-append, length-drop, length-reverse, reverse-append}
use Rattle.std.proofs.Math.Seq.{drop-append_seam}
use Rattle.std.specs.Prelude.{slice_get}
use Rattle.std.specs.declared.result.Result.{Result}
use Rattle.sqlite.specs.{Held.{Held, state}, Store.Ghosts, declared.error.Error.Error}
use Rattle.argus_journal.specs.{Call.PlainCall, Entry.PlainEntry, Folding.next_entry_number, Journal.entry_at}
use Rattle.argus_journal.specs.EntrySpelling.{entry_line, entry_spelling}
use Rattle.argus_journal.specs.JournalView.{JournalView, after, entry_of, next_entry, with_entry}
use Rattle.argus_journal.specs.Opening.{Opening}
use Rattle.argus_guardian.specs.{JournalText.journal_text, Listing.{each_from, entries_text, opening_text}}
use Rattle.argus_store.specs.{Chain.{ended, listing_of}, Journal.Journal, Summing.entries_in}
use Rattle.argus_store.specs.{End.{end_after, with_lines}, declared.{end.End.End, keep_error.KeepError.KeepError}}
use Rattle.argus_store.specs.Kept.{AreFrom, HasAll, IsAcknowledged, IsAppended, IsKept, KeptState, LeavesFront}
use Rattle.argus_store.specs.{Kept.{line_of, lines_from}, Store.{Changes, HasLog, Leaves, LeavesEither}}
use Rattle.argus_store.proofs.Runs.{chained_then, ends_then, listed_then}

each_from_append : {A : Type 0} (f : ℕ → A → List ℕ) (n : ℕ) (xs ys : List A)
    → each_from f n (xs ++ ys) ≡ each_from f n xs ++ each_from f (n + length xs) ys
each_from_append f n [] ys = ap (λ m. each_from f m ys) (omega arith)
each_from_append f n (x ∷ xs) ys =
    ap (λ t. f n x ++ t) (each_from_append f (n + 1) xs ys
    ∙ ap (λ m. each_from f (n + 1) xs ++ each_from f m ys) (omega arith))
    ∙ sym (append_assoc (f n x) (each_from f (n + 1) xs) (each_from f (n + length (x ∷ xs)) ys))

-- the line of one entry, and those of the entries behind it
pub next_line : (s : Opening) (es : List PlainEntry) (at : ℕ) → s.first_entry ≤ at → at < next_entry_number s es
    → each_from entry_line at (drop (at - s.first_entry) (reverse es))
    ≡ line_of at (entry_at s es at) ++ each_from entry_line (at + 1) (drop ((at + 1) - s.first_entry) (reverse es))
next_line s es at from below =
    let i = at - s.first_entry in let all = reverse es in
    elim ((slice_get_cases all i).1) [
      | inl here ↦
          let next : suc i ≡ (at + 1) - s.first_entry = omega (arith, from) in
          let cut : drop i all ≡ here.0 ∷ drop ((at + 1) - s.first_entry) all =
          drop-cons all i here.0 here.1 ∙ ap (λ x. x ∷ drop (suc i) all) here.3
          ∙ ap (λ n. here.0 ∷ drop n all) next in
          let past : nat_lt at s.first_entry ≡ false = grind (arith, from) in
          let found : entry_at s es at ≡ Some here.0 = ap (λ b. cond b None (slice_get all i)) past ∙ here.2 in
          ap (each_from entry_line at) cut ∙ ap (λ e. line_of at e ++ each_from entry_line (at + 1)
          (drop ((at + 1) - s.first_entry) all)) (sym found)
      | inr past ↦ absurd (omega (arith, past.0, below, length-reverse es))
    ]

module _ (s : Opening) (has since : List PlainEntry) where
  -- the entries behind the first ones are those since
  pub left : drop (next_entry_number s has - s.first_entry) (reverse (since ++ has)) ≡ reverse since
  left =
      let count : next_entry_number s has - s.first_entry ≡ length (reverse has) = omega (arith, length-reverse has) in
      ap (λ n. drop n (reverse (since ++ has))) count
      ∙ ap (λ es. drop (length (reverse has)) es) (reverse-append since has)
      ∙ drop-append_seam (reverse has) (reverse since)

  -- their lines make the listing whole
  pub whole : journal_text (record { opening = s; entries = has })
      ++ each_from entry_line (next_entry_number s has) (reverse since)
      ≡ journal_text (record { opening = s; entries = since ++ has })
  whole =
      let at : s.first_entry + length (reverse has) ≡ next_entry_number s has = omega (arith, length-reverse has) in
      append_assoc (opening_text s) (entries_text s has) _
      ∙ ap (λ t. opening_text s ++ t) (sym (ap (each_from entry_line s.first_entry) (reverse-append since has)
      ∙ each_from_append entry_line s.first_entry (reverse has) (reverse since)
      ∙ ap (λ n. entries_text s has ++ each_from entry_line n (reverse since)) at))

module _ {S : Type 0} (g : Ghosts S) (old : KeptState S) (j : Journal) (kept : IsKept g old j) where
  starts : old.journal.opening.first_entry ≤ old.end.next
  starts = omega (arith, kept.next)

  module _ (lines : List ℕ) (since : AreFrom old.journal old.end.next lines) where
    listed : listing_of (with_lines j old.name old.end lines) ≡ journal_text old.journal
    listed =
        let s = old.journal.opening in
        let line : ℕ → List PlainEntry → List ℕ = each_from entry_line in
        let behind : ended lines ≡ line (next_entry_number s kept.has) (reverse kept.since) =
        since.are ∙ ap (λ n. line n (drop (n - s.first_entry) (reverse old.journal.entries))) kept.next
        ∙ ap (λ es. line (next_entry_number s kept.has) (drop (next_entry_number s kept.has - s.first_entry)
        (reverse es))) kept.all
        ∙ ap (line (next_entry_number s kept.has)) (left s kept.has kept.since) in
        listed_then j old.name old.end lines kept.chained kept.ends ∙ ap (λ t. listing_of j ++ t) behind
        ∙ ap (λ t. t ++ line (next_entry_number s kept.has) (reverse kept.since)) kept.listed
        ∙ whole s kept.has kept.since
        ∙ ap (λ es. journal_text (record { opening = s; entries = es })) (sym kept.all)

    has_all : (store : Held S) → HasLog (state g store) (with_lines j old.name old.end lines)
        → HasAll g (record old { store = store; end = end_after old.name old.end lines })
        (with_lines j old.name old.end lines)
    has_all store log = record {
      kept = record {
        log = log;
        chained = chained_then j old.name old.end lines kept.chained kept.ends;
        ends = ends_then j old.name old.end lines kept.chained kept.ends;
        has = old.journal.entries;
        since = [];
        all = refl;
        next = since.count;
        listed = listed;
      };
      whole = listed;
    }

-- one more call
pub longer : {S : Type 0} (g : Ghosts S) (k : KeptState S) (j : Journal) (call : PlainCall) → IsKept g k j
    → IsKept g (record k { journal = after k.journal call }) j
longer g k j call kept = record {
  log = kept.log;
  chained = kept.chained;
  ends = kept.ends;
  has = kept.has;
  since = entry_of k.journal call ∷ kept.since;
  all = ap (λ es. entry_of k.journal call ∷ es) kept.all;
  next = kept.next;
  listed = kept.listed;
}

-- what is lacking of a journal with one more entry
with_next : (journal : JournalView) (e : PlainEntry) (at : ℕ) (before : List ℕ) → journal.opening.first_entry ≤ at
    → at ≤ next_entry journal → before ≡ lines_from journal at
    → ended (before ++ entry_spelling (next_entry journal) e) ≡ lines_from (with_entry journal e) at
with_next journal e at before from below is =
    let first = journal.opening.first_entry in let all = reverse journal.entries in let n = next_entry journal in
    let high : at - first ≤ length all = omega (arith, from, below, length-reverse journal.entries) in
    let place : at + length (drop (at - first) all) ≡ n =
    omega (arith, from, high, length-drop (at - first) all, length-reverse journal.entries) in
    append_assoc before (entry_spelling n e) (10 ∷ []) ∙ ap (λ t. t ++ entry_line n e) is
    ∙ sym (ap (λ es. each_from entry_line at (drop (at - first) es)) (reverse-append (e ∷ []) journal.entries)
    ∙ ap (each_from entry_line at) (drop-append-le (at - first) all (e ∷ []) high)
    ∙ each_from_append entry_line at (drop (at - first) all) (e ∷ [])
    ∙ ap (λ m. each_from entry_line at (drop (at - first) all) ++ (entry_line m e ++ [])) place
    ∙ ap (λ t. each_from entry_line at (drop (at - first) all) ++ t) (append-nil (entry_line n e)))

-- the guardian's log with these lines behind it, of the entries that it lacks and of a call's that comes next
module _ {S : Type 0} (g : Ghosts S) (old : KeptState S) (j : Journal) (was : IsKept g old j) (call : PlainCall)
    (before lines : List ℕ) (has : before ≡ lines_from old.journal old.end.next)
    (is : lines ≡ before ++ entry_spelling (next_entry old.journal) (entry_of old.journal call))
    (count : old.end.next + entries_in lines ≡ next_entry old.journal + 1) (store : Held S) where
  abbrev pub next : KeptState S
  next = record old { journal = after old.journal call }

  are : AreFrom next.journal next.end.next lines
  are =
      let below : old.end.next ≤ next_entry old.journal =
      omega (arith, was.next, ap length was.all, length-append was.since was.has) in record {
        are = ap ended is ∙ with_next old.journal (entry_of old.journal call) old.end.next before
            (starts g old j was) below has;
        count = omega (arith, count);
      }

  front_left : LeavesEither (state g store) j (with_lines j old.name old.end lines)
      → LeavesFront g old store next.journal j
  front_left leaves db left = elim (leaves db left) [
    | inl before ↦ inl before
    | inr after ↦ inr (lines, listed g next j (longer g old j call was) lines are, after)
  ]

  acknowledged : (end : End) → end ≡ end_after old.name old.end lines
      → HasLog (state g store) (with_lines j old.name old.end lines)
      → Leaves (state g store) (with_lines j old.name old.end lines)
      → IsAcknowledged g old.name old.end
      (record { journal = next.journal; store = store; name = old.name; end = end }) j
  acknowledged end at log left = rw at (record {
    lines = lines;
    has = has_all g next j (longer g old j call was) lines are store log;
    leaves = left;
  })

  module _ {T : Type 0} (result : Result (Option End) Error)
      (changes : Changes (state g store) result T j (with_lines j old.name old.end lines)) where
    pub appended : (q : Result End KeepError) → IfOk q (λ end. result ≡ Ok (Some end))
        → OnErr q ((result ≡ Ok None) ⊎ IsErr result)
        → IfOk result (λ made. IfSome made (λ e. e ≡ end_after old.name old.end lines))
        → IsAppended g old store next.journal q j
    appended (Ok end) made unmade at = record {
      acknowledged = acknowledged end (rw made at at) ((rw made at changes.made) refl).1 ((rw made at changes.durable) refl);
      failed = λ _. tt;
      crash = front_left changes.crash;
    }
    appended (Err why) made unmade at = record {
      acknowledged = tt;
      failed = λ is_open. changes.kept is_open unmade;
      crash = front_left changes.crash;
    }

-- the guardian is as before, and so is its log
pub still : {S : Type 0} (g : Ghosts S) (old k : KeptState S) (store : Held S) (j : Journal) → IsKept g old j
    → HasLog (state g store) j → k ≡ record old { store = store } → IsKept g k j
still g old k store j was log is = rw is (record {
  log = log;
  chained = was.chained;
  ends = was.ends;
  has = was.has;
  since = was.since;
  all = was.all;
  next = was.next;
  listed = was.listed;
})

pub by_result : {T E : Type 0} {P Q R : Type 0} (r : Result T E) → OnOk r P → OnErr r Q → (P → R) → (Q → R) → R
by_result (Ok _) p q f h = f p
by_result (Err _) p q f h = h q
