-- The opening that a journal is folded into.
use Rattle.std.proofs.Common.{List, None, Option, Some, [], ap, arith, length, map, refl, subst, suc, sym, true, zero}
use Rattle.std.proofs.{Common.{ℕ, ◌++◌, ◌∙◌, ◌<◌, ◌∷◌, ◌≡◌, ◌≤◌}, lemmas.Bool.{Decides.nat_tests, and_from}}
use Rattle.std.specs.{List.list_all, Prelude.slice_get}
use Rattle.argus_contents.specs.{Content.PlainContent, Shape.PlainShape}
use Rattle.argus_entries.specs.Entry.{PlainEntry}
use Rattle.argus_model.{specs.{Effects.table, Owner.{is_base, owner}}, proofs.Effects.{table-append, table_same}}
use Rattle.argus_model.proofs.Theorems.{table_is_base}
use Rattle.argus_journal.specs.{Entries.entries, Events.history, Folding.{fold, next_entry_number, with_contents}}
use Rattle.argus_journal.specs.{Legal.Legal, Objects.{declared, shape_of, shapes}, Opening.{opening_at, KeepsNumbers}}
use Rattle.argus_journal.specs.Opening.{Opening, content_in, fits_shape, is_sound, model_opening}
use Rattle.argus_journal.specs.JournalFacts.{base_of, effects_of, next_action_number}
use Rattle.argus_journal.{specs.declared.limits.TheConstants.MAX_FIRST_ENTRY, proofs.Contents.content_fits}
use Rattle.argus_journal.proofs.{Legal.lawful, Shifted.before, Within.{actions_within, objects_within}}

pub shapes-with_contents : (f : ℕ → Option PlainContent) (xs : List PlainShape)
    → map (λ object. object.0) (with_contents f xs) ≡ xs
shapes-with_contents f [] = refl
shapes-with_contents f (x ∷ xs) = ap (λ ys. x ∷ ys) (shapes-with_contents (λ o. f (suc o)) xs)

length-with_contents : (f : ℕ → Option PlainContent) (xs : List PlainShape) → length (with_contents f xs) ≡ length xs
length-with_contents f [] = refl
length-with_contents f (x ∷ xs) = ap suc (length-with_contents (λ o. f (suc o)) xs)

-- each object has the content of its number, and where there is none, no content is asked for
content_there : (f : ℕ → Option PlainContent) (xs : List PlainShape) (o : ℕ) → (slice_get xs o ≡ None → f o ≡ None)
    → content_in (with_contents f xs) o ≡ f o
content_there f [] o n = sym (n refl)
content_there f (x ∷ xs) zero n = refl
content_there f (x ∷ xs) (suc o) n = content_there (λ k. f (suc k)) xs o n

contents_fit : (f : ℕ → Option PlainContent) (xs : List PlainShape) (n : ℕ)
    → ((o : ℕ) → fits_shape (slice_get xs o) n (f o) ≡ true)
    → list_all (λ object. fits_shape (Some object.0) n object.1) (with_contents f xs) ≡ true
contents_fit f [] n fit = refl
contents_fit f (x ∷ xs) n fit =
    and_from (fits_shape (Some x) n (f 0))
    (list_all (λ object. fits_shape (Some object.0) n object.1) (with_contents (λ o. f (suc o)) xs)) (fit 0)
    (contents_fit (λ o. f (suc o)) xs n (λ o. fit (suc o)))

module _ (s : Opening) (j : List PlainEntry) where
  module _ (sound : is_sound s ≡ true) (l : Legal s j) where
    base_fits : (o : ℕ) → fits_shape (shape_of s j o) (declared s j) (base_of s j o) ≡ true
    base_fits o = content_fits (λ b. is_base (owner (history s j) b)) s j o sound l

    absent : (o : ℕ) → slice_get (shapes s j) o ≡ None → base_of s j o ≡ None
    absent o none = grind (arith, nat_tests, base_fits o)

    pub fold_sound : is_sound (fold s j) ≡ true
    fold_sound =
        let contents = with_contents (base_of s j) (shapes s j) in
        subst (λ n. list_all (λ object. fits_shape (Some object.0) n object.1) contents ≡ true)
        (sym (length-with_contents (base_of s j) (shapes s j)))
        (contents_fit (base_of s j) (shapes s j) (declared s j) base_fits)

    pub fold_content : (o : ℕ) → content_in (fold s j).objects o ≡ base_of s j o
    fold_content o = content_there (base_of s j) (shapes s j) o (absent o)

    pub effects_after : (later : List (List (ℕ × Option PlainContent))) (o : ℕ)
        → table (content_in s.objects) (effects_of s j ++ later) o ≡ table (content_in (fold s j).objects) later o
    effects_after later o =
        table-append (content_in s.objects) (effects_of s j) later o
        ∙ table_same (table (content_in s.objects) (effects_of s j)) (content_in (fold s j).objects) later
        (λ x. table_is_base entries (model_opening s) (history s j) x (lawful s j l) ∙ sym (fold_content x)) o

    pub base_after : (later : List PlainEntry) (o : ℕ) → Legal (fold s j) later
        → table (content_in s.objects) (effects_of s j ++ effects_of (fold s j) later) o ≡ base_of (fold s j) later o
    base_after later o k =
        effects_after (effects_of (fold s j) later) o
        ∙ table_is_base entries (model_opening (fold s j)) (history (fold s j) later) o (lawful (fold s j) later k)

  pub fold_numbers : KeepsNumbers s → Legal s j → next_entry_number s j ≤ MAX_FIRST_ENTRY → KeepsNumbers (fold s j)
  fold_numbers k l n = grind (arith, nat_tests, objects_within, length-with_contents, actions_within)

  pub next_stays : next_action_number (fold s j) [] ≡ next_action_number s j
  next_stays = before (next_action_number s j)

  pub entry_stays : next_entry_number (fold s j) [] ≡ next_entry_number s j
  entry_stays = omega arith

-- objects of these shapes, each with the content of its number
contents_are : (f : ℕ → Option PlainContent) (objects : List (PlainShape × Option PlainContent))
    → ((o : ℕ) → o < length objects → content_in objects o ≡ f o)
    → objects ≡ with_contents f (map (λ object. object.0) objects)
contents_are f [] same = refl
contents_are f (object ∷ rest) same =
    ap (λ c. (object.0, c) ∷ rest) (same 0 (omega arith))
    ∙ ap (λ os. (object.0, f 0) ∷ os) (contents_are (λ o. f (suc o)) rest (λ o lt. same (suc o) (omega (arith, lt))))

pub fold_made : (s : Opening) (j : List PlainEntry) (objects : List (PlainShape × Option PlainContent)) (first : ℕ)
    → map (λ object. object.0) objects ≡ shapes s j
    → ((o : ℕ) → o < length objects → content_in objects o ≡ base_of s j o)
    → first ≡ next_action_number s j
    → opening_at objects first (next_entry_number s j) ≡ fold s j
fold_made s j objects first kinds same next = grind (arith, nat_tests, contents_are)
