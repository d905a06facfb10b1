-- The line of the entry that was just made, and what was written of a run that came to a stop.
use Rattle.std.proofs.Common.{Bool, List, None, Option, Some, [], ap, arith, false, get_or, inl, inr, length, nat_lt}
use Rattle.std.proofs.Common.{slice_get, subst, sym, take, true, ℕ, ◌+◌, ◌-◌, ◌<◌, ◌∙◌, ◌∷◌, ◌≡◌}
use Rattle.std.proofs.{lemmas.List.{append-nil, get_or-reverse, length-reverse}, lemmas.Option.slice_get-get_or}
use Rattle.std.specs.{Io.KnownBytes.Appends, Prelude.{if◌then◌else◌, reverse}}
use Rattle.argus_entries.specs.{Call.PlainCall, Entry.PlainEntry, EntrySpelling.entry_line}
use Rattle.argus_journal.specs.JournalView.{JournalView, after, entry_of, next_entry}
use Rattle.argus_runs.specs.Lines.{KeepsText, Lacking, Written, WrittenAlmost, line_at, line_if}

newest : (e : PlainEntry) (older : List PlainEntry) → slice_get (reverse (e ∷ older)) (length older) ≡ Some e
newest e older =
    let n = length older in
    let inside : n < length (e ∷ older) = omega arith in
    let within : n < length (reverse (e ∷ older)) = rw (length-reverse (e ∷ older)) inside in
    let first : length (e ∷ older) - 1 - n ≡ 0 = omega arith in
    slice_get-get_or (reverse (e ∷ older)) n e within
    ∙ ap Some (get_or-reverse (e ∷ older) n e inside ∙ ap (λ k. get_or (e ∷ older) k e) first)

found : (first : ℕ) (e : PlainEntry) (older : List PlainEntry) → (if nat_lt (first + length older) first then None
    else slice_get (reverse (e ∷ older)) ((first + length older) - first)) ≡ Some e
found first e older =
    let past : nat_lt (first + length older) first ≡ false = grind arith in
    let at : (first + length older) - first ≡ length older = omega arith in
    rw past (ap (λ k. slice_get (reverse (e ∷ older)) k) at ∙ newest e older)

last-line : (j : JournalView) (c : PlainCall) → line_at (after j c) (next_entry j) ≡ entry_line (next_entry j)
    (entry_of j c)
last-line j c = ap (line_if (next_entry j)) (found j.opening.first_entry (entry_of j c) j.entries)

line_made : (j k : JournalView) (c : PlainCall) (at : ℕ) → k ≡ after j c → at ≡ next_entry j
    → line_at k at ≡ entry_line (next_entry j) (entry_of j c)
line_made j k c at e d = ap (λ x. line_at x at) e ∙ ap (λ x. line_at (after j c) x) d ∙ last-line j c

pub written_one : (j k : JournalView) (c : PlainCall) (at : ℕ) (t u : Option (List ℕ)) → k ≡ after j c
    → at ≡ next_entry j → Appends t u (line_at k at) → Written j t k u
written_one j k c at t u e d p =
    let P : List ℕ → Type 0 = λ x. Appends t u x in (
      entry_of j c ∷ [],
      e,
      subst P (line_made j k c at e d ∙ sym (append-nil (entry_line (next_entry j) (entry_of j c)))) p,
    )

pub lacking_one : (j k : JournalView) (c : PlainCall) (at n : ℕ) (t u : Option (List ℕ)) → k ≡ after j c
    → at ≡ next_entry j → Appends t u (take n (line_at k at)) → Lacking j t k u
lacking_one j k c at n t u e d p =
    let P : List ℕ → Type 0 = λ x. Appends t u (take n x) in
    let z : next_entry j ≡ next_entry j + 0 = omega arith in
    ([], entry_of j c, n, e, subst P (line_made j k c at e d ∙ ap (λ m. entry_line m (entry_of j c)) z) p)

-- what a run has kept that came to a stop is what was written of it, whether a line was cut or not
pub written_almost : (before cut : Bool) (j k : JournalView) (t u : Option (List ℕ)) → before ≡ false
    → KeepsText before j t cut k u → WrittenAlmost j t k u
written_almost false false j k t u e p = inl p
written_almost false true j k t u e p = inr p
written_almost true cut j k t u e p = cc
