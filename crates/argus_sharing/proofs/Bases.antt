-- The bases of the objects, as a list.
use Rattle.std.proofs.Common.{List, None, Option, Some, [], ap, arith, inl, inr, length, map, refl, sym, true, ℕ, ◌++◌}
use Rattle.std.proofs.{Common.{◌+◌, ◌∙◌, ◌∷◌, ◌≡◌, ◌≤◌}, lemmas.Bool.cases_lt, lemmas.List.{get_or_past, map-append}}
use Rattle.std.proofs.lemmas.List.FromFn.{get_or-map-range_with_len, length-map-range_with_len, map-range_with_len_more}
use Rattle.std.proofs.lemmas.Option.{slice_get_past}
use Rattle.std.specs.List.{range_with_len}
use Rattle.argus_board.specs.Effects.{IsTableOf, content_of_object, plain_contents}
use Rattle.argus_contents.specs.{Effect.Effect, Content.{PlainContent, plain_option}, Shape.PlainShape}
use Rattle.argus_contents.specs.declared.content.Content.{Content}
use Rattle.argus_journal.proofs.{Fitting.nothing, Legal.lawful}
use Rattle.argus_journal.specs.{Entries.entries, Events.history, Legal.Legal, Objects.{declared, shape_of, shapes}}
use Rattle.argus_journal.specs.{Opening.{content_in, fits_shape, model_opening}, JournalFacts.base_of}
use Rattle.argus_journal.specs.JournalView.{JournalView}
use Rattle.argus_model.proofs.Theorems.{table_is_base}
use Rattle.argus_model.specs.Effects.{table}
use Rattle.argus_sharing.specs.Following.{journal_bases, journal_effects}

-- no content fits where there is no shape
unfit : (shape : Option PlainShape) (n : ℕ) (content : Option PlainContent) → shape ≡ None
    → fits_shape shape n content ≡ true → content ≡ None
unfit None n None is e = refl
unfit None n (Some c) is e = nothing e
unfit (Some s) n content is e = absurd (cc is)

-- a content more
pub one_more : (f : ℕ → Option PlainContent) (xs ys : List (Option Content)) (x : Option Content) (n : ℕ)
    → plain_contents xs ≡ map f (range_with_len 0 n) → plain_option x ≡ f n → ys ≡ xs ++ x ∷ []
    → plain_contents ys ≡ map f (range_with_len 0 (n + 1))
one_more f xs ys x n is last more =
    ap plain_contents more ∙ map-append plain_option xs (x ∷ []) ∙ ap (λ z. z ++ plain_option x ∷ []) is
    ∙ ap (λ c. map f (range_with_len 0 n) ++ c ∷ []) last ∙ sym (map-range_with_len_more f 0 n n (omega arith))

module _ (journal : JournalView)
    (fits : (o : ℕ) → fits_shape (shape_of journal.opening journal.entries o) (declared journal.opening journal.entries)
    (base_of journal.opening journal.entries o) ≡ true) where
  -- each object has its own, and none is there where no object is
  base_at : (o : ℕ) → content_of_object (journal_bases journal) o ≡ base_of journal.opening journal.entries o
  base_at o =
      let s = journal.opening in
      let j = journal.entries in
      let n = declared s j in
      let f = base_of s j in
      elim (cases_lt o n) [
        | inl lt ↦ get_or-map-range_with_len f 0 n o o None lt (omega arith)
        | inr ge ↦
            let past : length (map f (range_with_len 0 n)) ≤ o = omega (arith, ge, length-map-range_with_len f 0 n) in
            get_or_past (map f (range_with_len 0 n)) o None past
            ∙ sym (unfit (shape_of s j o) n (f o) (slice_get_past (shapes s j) o ge) (fits o))
      ]

  -- they are what the effects of the journal leave
  pub bases_lead : (opening : ℕ → Option PlainContent) (before : List Effect) (first : List (Option PlainContent))
      → Legal journal.opening journal.entries → opening ≡ content_in journal.opening.objects → before
      ≡ journal_effects journal
      → first ≡ journal_bases journal → IsTableOf opening before first
  bases_lead opening before first legal is told bases o =
      ap (λ z. content_of_object z o) bases ∙ base_at o
      ∙ sym (table_is_base entries (model_opening journal.opening) (history journal.opening journal.entries) o
      (lawful journal.opening journal.entries legal))
      ∙ sym (ap (λ f. table f before o) is ∙ ap (λ l. table (content_in journal.opening.objects) l o) told)
