-- The table of what the committed topactions left has the bases, and an event adds at most one effect at the end.
use Rattle.std.proofs.{lemmas.Bool.Decides.nat_tests, lemmas.Bool.{cases_Bool, eq-eqb, false≢true, ne_eqb}}
use Rattle.std.proofs.{lemmas.List.reverse-append, Common.{arith, cond}}
use Rattle.std.proofs.Common.{false, refl, sym, true, ℕ, ◌++◌, ◌∙◌, ◌∷◌, ◌≡◌, ◌≢◌, Bool, List, Some, [], ap, append-nil}
use Rattle.std.specs.Prelude.{map, reverse, ◌==◌}
use Rattle.argus_model.specs.{Ancestors.{is_under, lineage, parent}, Event.{Aborted, Accessed, Began, Committed, Event}}
use Rattle.argus_model.specs.Effects.{content_by, effect_of, effects, effects_of, table, written_objects}
use Rattle.argus_model.specs.{History.{History, Opened, HistoryOpening, ◌▹◌}, WorkSteps.{LawfulSteps, visible_accesses}}
use Rattle.argus_model.specs.{HolderSteps.{has_used, holds}, OwnerSteps.{owner_by_steps, stands}, Meaning.Meaning}
use Rattle.argus_model.specs.{Numbers.contains, Work.{Access, all_of, committed_topactions, content_after, work}}
use Rattle.argus_model.proofs.{Ancestors.parent_older, Standing.parents_are_older, Contents.content_past}
use Rattle.argus_model.proofs.{Bools.eqb_sym, Numbers.{IsRising, contains_first, contains_insert, insert-IsRising}}
use Rattle.argus_model.proofs.Standing.{some_at, stands_begun, Orderly, at_some, handed_cases, kept_cases, owner_cases}
use Rattle.argus_model.proofs.{Exclusion.{has_used_begun, has_used_cases}, HolderSteps.{used_by_found, used_by_from}}
use Rattle.argus_model.proofs.Serial.{base_serial, lineage-base, orderly, serial_to-base, serials}
use Rattle.argus_model.proofs.{Topactions.{serial_tops, tops_over}, Work.{all_of_agree, touches, user_of, work_final}}

-- functions that agree everywhere give the same list
pub map_agree : {X : Type 0} (f g : ℕ → X) (xs : List ℕ) → ((x : ℕ) → f x ≡ g x) → map f xs ≡ map g xs
map_agree f g [] same = refl
map_agree f g (x ∷ xs) same = ap (λ u. u ∷ map f xs) (same x) ∙ ap (λ u. g x ∷ u) (map_agree f g xs same)

module _ {C : Type 0} where
  content_by_is : (f : ℕ → C) (os : List ℕ) (o : ℕ) (c : C)
      → content_by (map (λ x. (x, f x)) os) o c ≡ cond (contains os o) (f o) c
  content_by_is f [] o c = refl
  content_by_is f (x ∷ os) o c = grind (arith, nat_tests, content_by_is f os o c)

  table-more : (s : ℕ → C) (l : List (List (ℕ × C))) (m : List (ℕ × C)) (o : ℕ)
      → table s (l ++ m ∷ []) o ≡ content_by m o (table s l o)
  table-more s [] m o = refl
  table-more s (k ∷ l) m o = table-more (λ x. content_by k x (s x)) l m o

  -- a table of effects may be made in two parts, the second on what the first leaves
  pub table-append : (s : ℕ → C) (l k : List (List (ℕ × C))) (o : ℕ) → table s (l ++ k) o ≡ table (table s l) k o
  table-append s [] k o = refl
  table-append s (m ∷ l) k o = table-append (λ x. content_by m x (s x)) l k o

  -- from the same contents the same effects make the same table
  pub table_same : (s t : ℕ → C) (l : List (List (ℕ × C))) → ((o : ℕ) → s o ≡ t o) → (o : ℕ) → table s l o ≡ table t l o
  table_same s t [] same o = same o
  table_same s t (m ∷ l) same o =
      table_same (λ x. content_by m x (s x)) (λ x. content_by m x (t x)) l (λ x. ap (content_by m x) (same x)) o

module _ {V C A : Type 0} (meaning : Meaning V C A) where
  -- the written objects are those that one of the accesses writes
  pub contains_written : (es : List (Access V)) (o : ℕ)
      → contains (written_objects meaning es) o ≡ touches meaning.writes es o false
  contains_written [] o = refl
  contains_written (e ∷ es) o = grind (arith, nat_tests, contains_insert, contains_written es o, touches, eqb_sym)

  -- the written objects are listed in increasing number
  pub written-IsRising : (es : List (Access V)) → IsRising (written_objects meaning es)
  written-IsRising [] = tt
  written-IsRising (e ∷ es) = grind (arith, nat_tests, insert-IsRising, written-IsRising es)

  touches_front : (es fs : List (Access V)) (o : ℕ) (all : Bool) → touches meaning.writes es o all ≡ true
      → touches meaning.writes (es ++ fs) o all ≡ true
  touches_front [] fs o all m = absurd (false≢true m)
  touches_front (e ∷ es) fs o all m = grind (arith, nat_tests, touches_front es fs o all)

  touches_back : (es fs : List (Access V)) (o : ℕ) (all : Bool) → touches meaning.writes fs o all ≡ true
      → touches meaning.writes (es ++ fs) o all ≡ true
  touches_back [] fs o all m = m
  touches_back (e ∷ es) fs o all m = grind (arith, nat_tests, touches_back es fs o all m)

  -- who answers for an access has it in its work
  work_of_user : (h : History V) → Orderly h → (a y o : ℕ) (all : Bool) → has_used meaning.writes h a o all ≡ true
      → owner_by_steps h a ≡ Some y → touches meaning.writes (work h y) o all ≡ true
  work_of_user (Opened n) w a y o all u e = absurd (false≢true u)
  work_of_user (Began from ▹ h) w a y o all u e =
      grind (arith, nat_tests, has_used_begun, work_of_user h w.1 a y o all u, owner_cases)
  work_of_user (Committed s ▹ h) w a y o all u e =
      grind (
        arith,
        nat_tests,
        touches,
        touches_front,
        work_of_user h w.1 a s o all u,
        work_of_user h w.1 a y o all u,
        touches_back,
        handed_cases s,
      )
  work_of_user (Aborted z ▹ h) w a y o all u e =
      work_of_user h w.1 a y o all u (kept_cases (is_under h z) (owner_by_steps h a) y e).0
  work_of_user (Accessed d o' v ▹ h) w a y o all u e =
      grind (arith, nat_tests, at_some, touches, work_of_user h w.1 a y o all, cases_Bool (d == y), has_used_cases)

  -- what a live action's work has written is what it holds for writing
  pub written_holds : (h : History V) → Orderly h → (y o : ℕ) → stands h y ≡ true
      → contains (written_objects meaning (work h y)) o ≡ holds meaning.writes h o false y
  written_holds h w y o l =
      let user = user_of meaning.writes h w y o false l in let works = work_of_user h w in
      grind (arith, nat_tests, contains_written, user, used_by_from, some_at, used_by_found, works, at_some)

module _ {V C A : Type 0} (meaning : Meaning V C A) (opening : HistoryOpening C) where
  effects_of_agree : (f g : ℕ → List (Access V)) (ts : List ℕ) → ((t : ℕ) → contains ts t ≡ true → f t ≡ g t)
      → effects_of meaning opening.contents f ts ≡ effects_of meaning opening.contents g ts
  effects_of_agree f g [] same = refl
  effects_of_agree f g (t ∷ ts) same = grind (arith, nat_tests, contains_first, all_of_agree, effects_of_agree f g ts)

  effects_of_same : (h : History V) (e : Event V) → Orderly h → Orderly (e ▹ h)
      → effects_of meaning opening.contents (work (e ▹ h)) (committed_topactions h)
      ≡ effects_of meaning opening.contents (work h) (committed_topactions h)
  effects_of_same h e w w' =
      effects_of_agree (work (e ▹ h)) (work h) (committed_topactions h) (λ z m. work_final h e w' z (tops_over h w z m))

  -- an event that commits no topaction leaves the effects as they are
  pub effects_stay : (h : History V) (e : Event V) → Orderly h → Orderly (e ▹ h)
      → committed_topactions (e ▹ h) ≡ committed_topactions h
      → effects meaning opening (e ▹ h) ≡ effects meaning opening h
  effects_stay h e w w' same = grind (arith, nat_tests, effects_of_same)

  -- the commit of a topaction adds the effect of its work, at the end
  pub effects_grow : (h : History V) (s : ℕ) → Orderly (Committed s ▹ h) → parent h s ≡ 0
      → effects meaning opening (Committed s ▹ h)
      ≡ effects meaning opening h ++ effect_of meaning opening.contents (work h s) (work h 0) ∷ []
  effects_grow h s w e =
      let g = Committed s ▹ h in
      let own : work g s ≡ work h s =
      ap (λ q. cond q (work h s ++ work h s) (work h s)) (ne_eqb (parent h s) s (λ k. w.0.not_base (sym k ∙ e))) in
      let past : all_of (work g) (committed_topactions h) ≡ work h 0 =
      all_of_agree (work g) (work h) (committed_topactions h)
      (λ z m. work_final h (Committed s) w z (tops_over h w.1 z m)) ∙ sym (serial_tops h w.1) in
      let m = effect_of meaning opening.contents (work g s) (all_of (work g) (committed_topactions h)) in
      ap (λ q. reverse
      (effects_of meaning opening.contents (work g) (cond q (s ∷ committed_topactions h) (committed_topactions h))))
      (eq-eqb (parent h s) 0 e)
      ∙ reverse-append (m ∷ []) (effects_of meaning opening.contents (work g) (committed_topactions h))
      ∙ ap (λ ms. reverse ms ++ m ∷ []) (effects_of_same h (Committed s) w.1 w)
      ∙ ap (λ es. effects meaning opening h ++ effect_of meaning opening.contents es
      (all_of (work g) (committed_topactions h)) ∷ []) own
      ∙ ap (λ es. effects meaning opening h ++ effect_of meaning opening.contents (work h s) es ∷ []) past

  table_effects_of : (done : ℕ → List (Access V)) (ts : List ℕ) (o : ℕ)
      → table opening.contents (reverse (effects_of meaning opening.contents done ts)) o
      ≡ content_after meaning opening.contents o (all_of done ts)
  table_effects_of done [] o = refl
  table_effects_of done (t ∷ ts) o =
      let before = all_of done ts in
      let m = effect_of meaning opening.contents (done t) before in
      let ms = effects_of meaning opening.contents done ts in
      let after = λ (x : ℕ). content_after meaning opening.contents x (done t ++ before) in
      let old = content_after meaning opening.contents o before in
      let last = content_by_is after (written_objects meaning (done t)) o old in
      let more = table-more opening.contents (reverse ms) m o in
      let past = content_past meaning opening.contents o (done t) before in
      let written = contains_written meaning (done t) o in
      grind (arith, nat_tests, reverse-append (m ∷ []) ms, more, table_effects_of done ts o, last, written, past)

  -- the table of all effects is what the base sees
  pub table_base : (h : History V) → LawfulSteps meaning opening.contents h → (o : ℕ)
      → table opening.contents (effects meaning opening h) o
      ≡ content_after meaning opening.contents o (visible_accesses h 0)
  table_base h w o = grind (arith, nat_tests, table_effects_of, serial_tops, orderly, serial_to-base, base_serial)

  -- the effect of a topaction's work is what it sees in each object that it has written
  pub effect_seen : (h : History V) → LawfulSteps meaning opening.contents h → (s : ℕ) → s ≢ 0 → stands h s ≡ true
      → parent h s ≡ 0
      → effect_of meaning opening.contents (work h s) (work h 0)
      ≡ map (λ o. (o, content_after meaning opening.contents o (visible_accesses h s)))
      (written_objects meaning (work h s))
  effect_seen h w s s0 l e =
      let p = parent_older h s (parents_are_older h (orderly meaning opening.contents h w)) in
      let seen = serials meaning opening.contents h w s l in
      grind (arith, nat_tests, p, stands_begun h s l, lineage-base h, append-nil, map_agree, seen)

  -- effects that make the opening's contents, and then those of the history, make what the base sees
  pub table_goes_on : (s : ℕ → C) (l : List (List (ℕ × C))) → ((o : ℕ) → table s l o ≡ opening.contents o)
      → (h : History V) → LawfulSteps meaning opening.contents h → (o : ℕ)
      → table s (l ++ effects meaning opening h) o ≡ content_after meaning opening.contents o (visible_accesses h 0)
  table_goes_on s l same h w o = grind (arith, nat_tests, table-append s l, table_same, table_base h w o)
