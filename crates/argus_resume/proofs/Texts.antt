-- How a listing grows by a line.
use Rattle.std.proofs.{lemmas.List.{length-reverse, reverse-append}, Common.{◌≡◌, ℕ, ◌+◌, ◌<◌, List, [], ◌∷◌, ◌++◌}}
use Rattle.std.proofs.Common.{length, sym, ap, ◌∙◌, append-nil, append_assoc, arith, reverse}
use Rattle.std.specs.Prelude.{Option}
use Rattle.argus_contents.specs.{Content.PlainContent, Shape.PlainShape}
use Rattle.argus_entries.specs.{Entry.PlainEntry, EntrySpelling.{entry_line, entry_spelling}}
use Rattle.argus_journal.specs.{JournalView.{JournalView, next_entry, with_entry}, Opening.{Opening, opening_at}}
use Rattle.argus_listings.specs.Listing.{each_from, entries_text, opened_line}
use Rattle.argus_resume.specs.{JournalText.journal_text, Stage.{lines_of, opened_alone}}

pub each_from-append : {A : Type 0} (f : ℕ → A → List ℕ) (n : ℕ) (xs ys : List A)
    → each_from f n (xs ++ ys) ≡ each_from f n xs ++ each_from f (n + length xs) ys
each_from-append f n [] ys = grind arith
each_from-append f n (x ∷ xs) ys = grind (arith, each_from-append f (n + 1) xs ys, append_assoc)

-- one more at the end
pub each_from_push : {A : Type 0} (f : ℕ → A → List ℕ) (n : ℕ) (xs : List A) (y : A)
    → each_from f n (xs ++ y ∷ []) ≡ each_from f n xs ++ f (n + length xs) y
each_from_push f n xs y =
    each_from-append f n xs (y ∷ []) ∙ ap (λ t. each_from f n xs ++ t) (append-nil (f (n + length xs) y))

entries_push : (s : Opening) (older : List PlainEntry) (e : PlainEntry)
    → entries_text s (e ∷ older) ≡ entries_text s older ++ entry_line (s.first_entry + length older) e
entries_push s older e = ap (λ l. each_from entry_line s.first_entry l) (reverse-append (e ∷ []) older)
    ∙ each_from_push entry_line s.first_entry (reverse older) e
    ∙ ap (λ k. entries_text s older ++ entry_line (s.first_entry + k) e) (length-reverse older)

-- the listing of a journal with one entry more
pub entry_text : (journal : JournalView) (e : PlainEntry) → journal_text (with_entry journal e)
    ≡ journal_text journal ++ (entry_spelling (next_entry journal) e ++ 10 ∷ [])
entry_text journal e = grind (arith, entries_push, append_assoc)

-- the listing of a journal with one entry more, from the entry's line
pub line_text : (old new : JournalView) (e : PlainEntry) (line : List ℕ) → new ≡ with_entry old e
    → line ≡ entry_spelling (next_entry old) e → journal_text new ≡ journal_text old ++ (line ++ 10 ∷ [])
line_text old new e line is of =
    ap journal_text is ∙ entry_text old e ∙ ap (λ t. journal_text old ++ (t ++ 10 ∷ [])) (sym of)

-- the listing of an opening alone
pub opened_text : (s : Opening) → 0 < s.first_entry → journal_text (opened_alone s) ≡ lines_of s
opened_text s h = grind (arith, append-nil)

-- the lines of an opening with one object more
pub object_text : (objects : List (PlainShape × Option PlainContent)) (object : PlainShape × Option PlainContent)
    (first_action first_entry : ℕ) → lines_of (opening_at (objects ++ object ∷ []) first_action first_entry)
    ≡ lines_of (opening_at objects first_action first_entry) ++ opened_line (length objects) object
object_text objects object first_action first_entry = grind (arith, each_from_push, append_assoc)
