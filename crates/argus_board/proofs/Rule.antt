-- Each step keeps the rule of the board.
use Rattle.std.proofs.Common.{List, Option, [], ap, refl, set, subst, suc, sym, zero, ℕ, ⊎_elim, ◌++◌, ◌∙◌, ◌∷◌, ◌≡◌}
use Rattle.std.proofs.Common.{◌≢◌}
use mathlib.Core.List.{IsPrefix}
use mathlib.Core.Option.{some, some-injective, some-ne-none}
use lib.ListN.{get_elem?}
use Rattle.atomic_table.proofs.Lists.{at_set, at_snoc}
use Rattle.crossbeam_utils.specs.Register.{Admits, Forks, Merges, TurnsAt}
use Rattle.logbook.specs.Pages.{Book}
use Rattle.argus_contents.specs.{Content.PlainContent, Effect.Effect}
use Rattle.argus_board.specs.{Effects.contents_after, HistoryPrefix.{book_of, line_of}, declared.table.Table.Table}
use Rattle.argus_board.specs.Published.{AllBegin, FitsTable, IsConsistentTable, SeesPublished, contents_of, joined_view}
use Rattle.argus_board.proofs.Prefixes.{begins_itself, begins_later, nothing_begins}

all_set : (l : List Effect) (views : List (List Effect)) (by : ℕ) (w : List Effect) → AllBegin l views → IsPrefix w l
    → AllBegin l (set views by w)
all_set l views by w all mine j u e =
    ⊎_elim (λ (t : (j ≡ by) × (w ≡ u)). subst (λ z. IsPrefix z l) t.1 mine)
    (λ (t : (j ≢ by) × (get_elem? views j ≡ some u)). all j u t.1) (at_set views by j w u e)

all_more : (l : List Effect) (views : List (List Effect)) (w : List Effect) → AllBegin l views → IsPrefix w l
    → AllBegin l (views ++ w ∷ [])
all_more l views w all mine j u e =
    ⊎_elim (λ (was : get_elem? views j ≡ some u). all j u was)
    (λ (same : w ≡ u). subst (λ z. IsPrefix z l) same mine) (at_snoc views w u j e)

told_begins : (v w l : List Effect) → IsPrefix v l → IsPrefix w l → IsPrefix (joined_view v w) l
told_begins [] w l p q = q
told_begins (e ∷ v) w l p q = p

module _ (first : List (Option PlainContent)) (own : Book) (root : ℕ) where
  abbrev Holds : Table → List (List Effect) → Type 0
  Holds = IsConsistentTable first own root

  abbrev upto : Table → List Effect
  upto t = line_of root t.front

  -- the first contents, which the writer alone has seen
  pub starts : (x : Table) → contents_of x ≡ first → book_of x.front ≡ own → upto x ≡ []
      → Holds x ([] ∷ [])
  starts x is book none = ((is ∙ sym (ap (contents_after first) none), book), one)
    where
      one : AllBegin (upto x) ([] ∷ [])
      one zero v e = subst (λ z. IsPrefix z (upto x)) (some-injective _ _ e) (nothing_begins (upto x))
      one (suc j) v e = absurd (some-ne-none v (sym e))

  pub admits : Admits Holds []
  admits x views h = (h.0, all_more (upto x) views [] h.1 (nothing_begins (upto x)))

  -- the table grows, and this place sees all of it
  pub rises : (by : ℕ) (v : List Effect) (x y : Table) → IsPrefix (upto x) (upto y) → FitsTable first own root y
      → TurnsAt Holds by v x y (SeesPublished first own root)
  rises by v x y up fits views h at =
      let l = upto y in
      let later : AllBegin l views = λ j u e. begins_later u (upto x) l (h.1 j u e) up in
      (l, (fits, all_set l views by l later (begins_itself l)), (later by v at, refl, fits))

  pub looks : (by : ℕ) (v : List Effect) (x : Table) → TurnsAt Holds by v x x (SeesPublished first own root)
  looks by v x views h at = rises by v x x (begins_itself (upto x)) h.0 views h at

  pub forks : (by : ℕ) (v : List Effect) → Forks Holds by v v v
  forks by v x views h at =
      (h.0, all_more (upto x) (set views by v) v (all_set (upto x) views by v h.1 (h.1 by v at)) (h.1 by v at))

  pub merges : (by : ℕ) (v : List Effect) (other : ℕ) (w : List Effect) → Merges Holds by v other w (joined_view v w) []
  merges by v other w x views h at apart there =
      let l = upto x in
      let u = joined_view v w in
      let theirs : IsPrefix w l =
      ⊎_elim (λ (t : (other ≡ by) × (u ≡ w)). absurd (apart t.0))
      (λ (t : (other ≢ by) × (get_elem? views other ≡ some w)). h.1 other w t.1) (at_set views by other u w there) in (
        h.0,
        all_set l (set views by u) other [] (all_set l views by u h.1 (told_begins v w l (h.1 by v at) theirs))
            (nothing_begins l),
      )
