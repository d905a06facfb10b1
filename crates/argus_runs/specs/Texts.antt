-- What a run writes, in two parts.
use Rattle.std.proofs.Common.{Bool, List, None, Option, Some, [], ap, append_assoc, arith, false, length, length-append}
use Rattle.std.proofs.{Common.{refl, subst, sym, take, true, ℕ, ◌++◌, ◌+◌, ◌∙◌, ◌∷◌, ◌≡◌}, lemmas.List.append-nil}
use Rattle.std.specs.Io.KnownBytes.{Appends}
use Rattle.argus_entries.specs.{Entry.PlainEntry, EntrySpelling.entry_line}
use Rattle.argus_journal.specs.JournalView.{JournalView, next_entry, with_entry}
use Rattle.argus_runs.specs.{Adding.extended_more, Lines.{KeepsText, Lacking, Written, lines}, RunPrefix.extended}

-- a text that stays has nothing appended
appends_nothing : (a : Option (List ℕ)) → Appends a a []
appends_nothing None = tt
appends_nothing (Some x) = sym (append-nil x)

-- what is appended in two parts is appended as one
appends_on : (a b c : Option (List ℕ)) (xs ys zs : List ℕ) → zs ≡ xs ++ ys → Appends a b xs
    → Appends b c ys → Appends a c zs
appends_on None b c xs ys zs e p q = tt
appends_on (Some x) None c xs ys zs e p q = absurd p
appends_on (Some x) (Some y) None xs ys zs e p q = absurd q
appends_on (Some x) (Some y) (Some z) xs ys zs e p q =
    q ∙ ap (λ t. t ++ ys) p ∙ append_assoc x xs ys ∙ ap (λ t. x ++ t) (sym e)

-- the lines of two lists of entries are those of the first and, numbered on, those of the second
lines-append : (k : ℕ) (xs ys : List PlainEntry)
    → lines k (xs ++ ys) ≡ lines k xs ++ lines (k + length xs) ys
lines-append k [] ys = ap (λ n. lines n ys) (let h : k ≡ k + 0 = omega arith in h)
lines-append k (x ∷ xs) ys = ap (λ t. entry_line k x ++ t) (lines-append (k + 1) xs ys)
    ∙ ap (λ n. entry_line k x ++ (lines (k + 1) xs ++ lines n ys))
    (let h : (k + 1) + length xs ≡ k + length (x ∷ xs) = omega arith in h)
    ∙ sym (append_assoc (entry_line k x) (lines (k + 1) xs) (lines (k + length (x ∷ xs)) ys))

-- the next number grows by as many entries as are added
next-extended : (j : JournalView) (made : List PlainEntry)
    → next_entry (extended j made) ≡ next_entry j + length made
next-extended j [] = omega arith
next-extended j (e ∷ es) = omega (arith, next-extended (with_entry j e) es)

-- if no entry is added, and nothing written, all lines are written
written_same : (j : JournalView) (t : Option (List ℕ)) → Written j t j t
written_same j t = ([], refl, appends_nothing t)

-- what was written whole, and then what was written whole after it
written_on : (j k l : JournalView) (t u v : Option (List ℕ)) → Written j t k u → Written k u l v
    → Written j t l v
written_on j k l t u v (m, e, p) (n, f, q) = (
  m ++ n,
  f ∙ ap (λ x. extended x n) e ∙ sym (extended_more j m n),
  appends_on t u v (lines (next_entry j) m) (lines (next_entry k) n) (lines (next_entry j) (m ++ n))
      (lines-append (next_entry j) m n
      ∙ ap (λ x. lines (next_entry j) m ++ lines x n) (sym (ap next_entry e ∙ next-extended j
      m))) p q,
)

-- what was written whole, and then something whose last line is cut short
lacking_on : (j k l : JournalView) (t u v : Option (List ℕ)) → Written j t k u → Lacking k u l v
    → Lacking j t l v
lacking_on j k l t u v (m, e, p) (n, last, i, f, q) =
    let h : next_entry k ≡ next_entry j + length m = ap next_entry e ∙ next-extended j m in (
      m ++ n,
      last,
      i,
      f ∙ ap (λ x. extended x (n ++ last ∷ [])) e ∙ sym (extended_more j m (n ++ last ∷ []))
          ∙ ap (λ x. extended j x) (sym (append_assoc m n (last ∷ []))),
      appends_on t u v (lines (next_entry j) m)
          (lines (next_entry k) n ++ take i (entry_line (next_entry k + length n) last))
          (lines (next_entry j) (m ++ n) ++ take i (entry_line (next_entry j + length (m ++ n))
          last)) (ap (λ x. x ++ take i (entry_line (next_entry j + length (m ++ n)) last))
          (lines-append (next_entry j) m n ∙ ap (λ x. lines (next_entry j) m ++ lines x n) (sym h))
          ∙ append_assoc (lines (next_entry j) m) (lines (next_entry k) n)
          (take i (entry_line (next_entry j + length (m ++ n)) last))
          ∙ ap (λ x. lines (next_entry j) m ++ (lines (next_entry k) n ++ take i (entry_line x
          last))) (let g : next_entry j + length (m ++ n) ≡ next_entry k + length n = omega (
            arith,
            h,
            length-append m n,
          ) in g))
          p q,
    )

-- a run that adds and writes nothing keeps what runs keep
pub preserved_refl : (f : Bool) (j : JournalView) (t : Option (List ℕ)) → KeepsText f j t f j t
preserved_refl false j t = written_same j t
preserved_refl true j t = (refl, refl, refl)

-- two runs, one after the other, keep what runs keep
pub preserved_trans : (f g h : Bool) (j k l : JournalView) (t u v : Option (List ℕ))
    → KeepsText f j t g k u → KeepsText g k u h l v → KeepsText f j t h l v
preserved_trans false false false j k l t u v p q = written_on j k l t u v p q
preserved_trans false false true j k l t u v p q = lacking_on j k l t u v p q
preserved_trans false true false j k l t u v p (a, b, c) = cc
preserved_trans false true true j k l t u v p (a, b, c) =
    let P : JournalView → Type 0 = λ x. Lacking j t x v in
    let Q : Option (List ℕ) → Type 0 = λ x. Lacking j t k x in
    subst P (sym b) (subst Q (sym c) p)
preserved_trans true false h j k l t u v (a, b, c) q = cc
preserved_trans true true h j k l t u v (a, b, c) (d, e, f) = (d, e ∙ b, f ∙ c)
