-- A text that is made of the members of a list, each with its number.
use Rattle.std.proofs.Common.{List, None, Option, Some, [], ap, arith, drop, length, subst, suc, sym, ℕ, ◌+◌, cond}
use Rattle.std.proofs.Common.{drop-cons, false, get_or, inl, inr, nat_lt, refl, reverse, ◌-◌, ◌<◌, ◌==◌, ◌≢◌, ◌++◌, ◌∙◌}
use Rattle.std.proofs.{Common.{◌∷◌, ◌≡◌, ◌≤◌}, lemmas.List.drop_all, lemmas.Option.slice_get_within}
use Rattle.std.proofs.lemmas.Option.{get_or_from_slice_get, none-some, slice_get_cases, slice_get_read}
use Rattle.std.specs.Prelude.{slice_get}
use Rattle.argus_entries.specs.Entry.{PlainEntry}
use Rattle.argus_journal.specs.{Journal.entry_at, Opening.Opening}
use Rattle.argus_listings.proofs.Added.{Left, left_added, left_cut, left_ends, left_starts, left_stops, text_added}
use Rattle.argus_listings.specs.{Listing.{each_from, folded_line, opened_line, opening_text}, Flushing.{Added, Cut}}

found : {A : Type 0} (xs : List A) (i : ℕ) (x : A) → slice_get xs i ≡ Some x → drop i xs ≡ x ∷ drop (i + 1) xs
found xs i x e =
    let next : suc i ≡ i + 1 = omega arith in
    drop-cons xs i x (slice_get_within xs i x e)
    ∙ ap (λ y. y ∷ drop (suc i) xs) (get_or_from_slice_get xs i x x e) ∙ ap (λ k. x ∷ drop k xs) next

missing : {A : Type 0} (xs : List A) (i : ℕ) → slice_get xs i ≡ None → drop i xs ≡ []
missing xs i e =
    elim ((slice_get_cases xs i).1) [
      | inl here ↦ absurd (none-some here.0 (sym e ∙ here.2))
      | inr past ↦ drop_all i xs past.0
    ]

module _ {A : Type 0} (f : ℕ → A → List ℕ) (xs : List A) (i n : ℕ)
    (a : Option (List ℕ)) (s : List ℕ) (c : Option (List ℕ)) (t whole : List ℕ)
    (left : Left a s c t whole (each_from f n (drop i xs))) where
  -- the next member, which was found
  module _ (x : A) (e : slice_get xs i ≡ Some x) (u : List ℕ) (made : u ≡ t ++ f n x) where
    appended : Left a s c u whole (each_from f (n + 1) (drop (i + 1) xs))
    appended =
        let P : List A → Type 0 = λ k. Left a s c t whole (each_from f n k) in
        left_added a s c t c u whole (f n x) (each_from f (n + 1) (drop (i + 1) xs)) (subst P (found xs i x e) left)
        (text_added c t u (f n x) made)

    pub each_next : (d : Option (List ℕ)) (v : List ℕ) → Added c u d v []
        → Left a s d v whole (each_from f (n + 1) (drop (i + 1) xs))
    each_next d v poured = left_added a s c u d v whole [] (each_from f (n + 1) (drop (i + 1) xs)) appended poured

    pub each_cut : (d : Option (List ℕ)) → Cut c u d [] → Cut a s d whole
    each_cut d cut = left_cut a s c u d whole [] (each_from f (n + 1) (drop (i + 1) xs)) appended cut

  -- there is no next member
  pub each_ends : slice_get xs i ≡ None → Added a s c t whole
  each_ends e =
      let P : List A → Type 0 = λ k. Left a s c t whole (each_from f n k) in
      left_ends a s c t whole (subst P (missing xs i e) left)

  pub each_past : length xs ≤ i → Added a s c t whole
  each_past past =
      let P : List A → Type 0 = λ k. Left a s c t whole (each_from f n k) in
      left_ends a s c t whole (subst P (drop_all i xs past) left)

  pub each_stops : Cut a s c whole
  each_stops = left_stops a s c t whole (each_from f n (drop i xs)) left

-- from the first number on, all is left
pub each_starts : {A : Type 0} (f : ℕ → A → List ℕ) (xs : List A) (n m : ℕ) (c : Option (List ℕ)) (t : List ℕ)
    → m ≡ n → Left c t c t (each_from f n xs) (each_from f m (drop (m - n) xs))
each_starts f xs n m c t e =
    let none : m - n ≡ 0 = omega (arith, e) in
    let same : each_from f n xs ≡ each_from f m (drop (m - n) xs) =
    ap (λ k. each_from f k xs) (sym e) ∙ ap (λ k. each_from f m (drop k xs)) (sym none) in
    subst (λ k. Left c t c t (each_from f n xs) k) same (left_starts c t (each_from f n xs))

-- a member that was taken out of a list that is this one
pub taken : {A : Type 0} (xs ys : List A) (i : ℕ) (x : A) → xs ≡ ys → i < length xs → x ≡ get_or xs i x
    → slice_get ys i ≡ Some x
taken xs ys i x e low is = subst (λ k. slice_get k i ≡ Some x) e (slice_get_read xs (length xs) i x refl low is)

-- an entry of the journal, by its number, or none
pub entry_there : (s : Opening) (j : List PlainEntry) (at : ℕ) (e : Option PlainEntry) → s.first_entry ≤ at
    → e ≡ entry_at s j at → slice_get (reverse j) (at - s.first_entry) ≡ e
entry_there s j at e from is =
    let past : nat_lt at s.first_entry ≡ false = grind (arith, from) in
    sym (is ∙ ap (λ b. cond b None (slice_get (reverse j) (at - s.first_entry))) past)

-- the lines of an opening before which entries went
pub opening_there : (s : Opening) (n entries actions : ℕ) → n ≡ s.first_entry → n ≢ 0 → entries ≡ s.first_entry
    → actions ≡ s.first_action → folded_line entries actions ++ each_from opened_line 0 s.objects ≡ opening_text s
opening_there s n entries actions e f g h =
    let rest = each_from opened_line 0 s.objects in
    let some : (s.first_entry == 0) ≡ false = grind (arith, e, f) in
    ap (λ k. folded_line k actions ++ rest) g ∙ ap (λ k. folded_line s.first_entry k ++ rest) h
    ∙ sym (ap (λ b. cond b [] (folded_line s.first_entry s.first_action ++ rest)) some)
