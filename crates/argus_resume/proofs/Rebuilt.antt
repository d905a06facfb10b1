-- A journal that is rebuilt entry by entry, the oldest first.
use Rattle.std.proofs.lemmas.{List.{get_or-reverse, length-reverse}, Option.{get_or_from_slice_get, none-some}}
use Rattle.std.proofs.{lemmas.Option.{slice_get_cases, slice_get_within}, Common.{◌≡◌, ℕ, suc, zero, ◌+◌, ◌-◌, ◌<◌}}
use Rattle.std.proofs.Common.{◌≤◌, List, [], ◌∷◌, length, drop, get_or, sym, ap, ◌∙◌, None, Option, Some, subst, arith}
use Rattle.std.proofs.Common.{reverse, drop-cons, refl, ◌≢◌}
use Rattle.std.specs.Prelude.{slice_get}
use Rattle.argus_entries.specs.Entry.{PlainEntry}
use Rattle.argus_journal.specs.{Answers.answer, Journal.entry_at, Legal.Legal, Opening.Opening, JournalView.JournalView}
use Rattle.argus_journal.specs.JournalView.{after, entry_with, reply_to}
use Rattle.argus_resume.specs.Without.{without_newest}

-- the older entries of a legal journal are legal
pub legal_from : (s : Opening) (j : List PlainEntry) (m : ℕ) → Legal s j → Legal s (drop m j)
legal_from s j zero h = h
legal_from s [] (suc m) h = tt
legal_from s (e ∷ older) (suc m) h = legal_from s older m h.1

-- the entry after so many of the oldest ones
oldest_next : (j : List PlainEntry) (k : ℕ) (e : PlainEntry) → slice_get (reverse j) k ≡ Some e
    → drop (length j - (k + 1)) j ≡ e ∷ drop (length j - k) j
oldest_next j k e is =
    let low : k < length j = omega (arith, slice_get_within (reverse j) k e is, length-reverse j) in
    let place : length j - 1 - k < length j = omega (arith, low) in
    let here : get_or j (length j - 1 - k) e ≡ e =
    sym (get_or-reverse j k e low) ∙ get_or_from_slice_get (reverse j) k e e is in
    let one : length j - (k + 1) ≡ length j - 1 - k = omega arith in
    let next : suc (length j - 1 - k) ≡ length j - k = omega (arith, low) in
    ap (λ m. drop m j) one ∙ drop-cons j (length j - 1 - k) e place
    ∙ ap (λ x. x ∷ drop (suc (length j - 1 - k)) j) here ∙ ap (λ m. e ∷ drop m j) next

-- an entry that was found by its number
pub entry_there : (s : Opening) (j : List PlainEntry) (at : ℕ) (e : Option PlainEntry) → s.first_entry ≤ at
    → e ≡ entry_at s j at → slice_get (reverse j) (at - s.first_entry) ≡ e
entry_there s j at e from is = grind arith

-- an entry's call is made again: it has the reply of the journal
pub rebuilt_next : (s : Opening) (j : List PlainEntry) (k : ℕ) (e : PlainEntry) (again new : JournalView) → Legal s j
    → slice_get (reverse j) k ≡ Some e → again.opening ≡ s → again.entries ≡ drop (length j - k) j
    → new ≡ after again e.call → (new.opening ≡ s) × (new.entries ≡ drop (length j - (k + 1)) j)
rebuilt_next s j k e again new legal is o es made =
    let next = oldest_next j k e is in
    let l : Legal s (e ∷ drop (length j - k) j) = subst (Legal s) next (legal_from s j (length j - (k + 1)) legal) in
    let r : reply_to again e.call ≡ e.reply =
    ap (λ (t : Opening). answer t again.entries e.call) o ∙ ap (λ (t : List PlainEntry). answer s t e.call) es
    ∙ sym l.0 in (
      ap (λ (v : JournalView). v.opening) made ∙ o,
      ap (λ (v : JournalView). v.entries) made ∙ ap (λ x. entry_with e.call x ∷ again.entries) r
          ∙ ap (λ (t : List PlainEntry). e ∷ t) es ∙ sym next,
    )

-- there is an entry at each place
pub entry_missing : (s : Opening) (j : List PlainEntry) (at : ℕ) → s.first_entry ≤ at
    → at - s.first_entry < length j → None ≡ entry_at s j at → ⊥
entry_missing s j at from low is = grind (arith, entry_there, slice_get_cases, none-some, length-reverse)

pub some_entries : (j : List PlainEntry) → j ≢ [] → 0 < length j
some_entries [] n = absurd (n refl)
some_entries (e ∷ j) n = omega arith

-- all but the newest entry were made again
pub rebuilt_all : (guardian again : JournalView) (s : Opening) (j : List PlainEntry) (k : ℕ) → s ≡ guardian.opening
    → j ≡ guardian.entries → again.opening ≡ s → again.entries ≡ drop (length j - k) j → k + 1 ≡ length j
    → again ≡ without_newest guardian
rebuilt_all guardian again s j k so je o es n = grind arith
