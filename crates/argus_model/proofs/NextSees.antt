-- What a live action sees, and the bases, after one more event.
use Rattle.std.proofs.Common.{List, Some, ap, arith, cond, false, refl, sym, true, ℕ, ◌∙◌, ◌≡◌, ◌≢◌}
use Rattle.std.proofs.{lemmas.Bool.cases_Bool, lemmas.Bool.Decides.nat_tests}
use Rattle.std.specs.Prelude.{◌&&◌, ◌==◌}
use Rattle.argus_model.specs.{Ancestors.{is_ancestor, parent}, Contents.{base, sees}, WorkSteps.visible_accesses}
use Rattle.argus_model.specs.{HolderSteps.has_used, Event.{Aborted, Accessed, Began, Committed, Origin, origin_parent}}
use Rattle.argus_model.specs.{Holders.writers, Meaning.Meaning, Numbers.contains, Work.content_after}
use Rattle.argus_model.specs.{History.{History, HistoryOpening, next_action, ◌▹◌}, OwnerSteps.{owner_by_steps, stands}}
use Rattle.argus_model.proofs.{Ancestors.next_pos, Sees.{base_is, sees_is}}
use Rattle.argus_model.proofs.{Exclusion.Guarded, Serial.{lineage-base, seen_abort, seen_access_other, seen_access_own}}
use Rattle.argus_model.proofs.Serial.{seen_as_s, seen_aside, seen_begin_new, seen_begin_old, seen_same, base_stands}
use Rattle.argus_model.proofs.{Holders.{contains_holders, listed}, HolderSteps.{used_by_found, used_by_from}}
use Rattle.argus_model.proofs.Standing.{Orderly, alone, at_some, parents_are_older, some_at, stands_upward}

module _ {V C A : Type 0} (meaning : Meaning V C A) (opening : HistoryOpening C) where
  -- the base sees what is there for good
  pub sees_base : (h : History V) → Orderly h → (o : ℕ) → sees meaning opening h 0 o ≡ base meaning opening h o
  sees_base h w o = sees_is meaning opening h w 0 o ∙ sym (base_is meaning opening h w o)

  -- two histories' views agree where their accesses leave the same
  both : (g h : History V) → Orderly g → Orderly h → (x y o : ℕ)
      → content_after meaning opening.contents o (visible_accesses h y)
      ≡ content_after meaning opening.contents o (visible_accesses g x)
      → sees meaning opening g x o ≡ sees meaning opening h y o
  both g h v w x y o e = sees_is meaning opening g v x o ∙ sym e ∙ sym (sees_is meaning opening h w y o)

  -- what holds of what the base sees holds of the base
  for_base : (g h : History V) → Orderly g → Orderly h → (o : ℕ)
      → sees meaning opening g 0 o ≡ sees meaning opening h 0 o → base meaning opening g o ≡ base meaning opening h o
  for_base g h v w o e = sym (sees_base g v o) ∙ e ∙ sees_base h w o

  -- a new action sees what its parent sees
  pub sees_after_begin_new : (h : History V) (from : Origin) → Orderly (Began from ▹ h) → (o : ℕ)
      → sees meaning opening (Began from ▹ h) (next_action h) o ≡ sees meaning opening h (origin_parent from) o
  sees_after_begin_new h from w o =
      both (Began from ▹ h) h w w.1 (next_action h) (origin_parent from) o
      (seen_begin_new meaning opening.contents h from (next_action h) o w.1 refl)

  -- a begin leaves what every other sees
  pub sees_after_begin : (h : History V) (from : Origin) → Orderly (Began from ▹ h) → (y o : ℕ) → y ≢ next_action h
      → sees meaning opening (Began from ▹ h) y o ≡ sees meaning opening h y o
  sees_after_begin h from w y o n =
      both (Began from ▹ h) h w w.1 y y o (seen_begin_old meaning opening.contents h from y o w.1 n)

  -- a begin leaves what is there for good
  pub base_after_begin : (h : History V) (from : Origin) → Orderly (Began from ▹ h) → (o : ℕ)
      → base meaning opening (Began from ▹ h) o ≡ base meaning opening h o
  base_after_begin h from w o =
      for_base (Began from ▹ h) h w w.1 o (sees_after_begin h from w 0 o (let k = next_pos h in omega arith))

  -- who accesses an object sees there what the access leaves, and in others what it saw
  pub sees_after_access_own : (h : History V) (a o : ℕ) (v : V) → Orderly (Accessed a o v ▹ h) → (i : ℕ)
      → sees meaning opening (Accessed a o v ▹ h) a i
      ≡ cond (o == i) (meaning.after v (sees meaning opening h a i)) (sees meaning opening h a i)
  sees_after_access_own h a o v w i =
      sees_is meaning opening (Accessed a o v ▹ h) w a i
      ∙ seen_access_own meaning opening.contents h a o v i w.0.standing
      ∙ ap (λ c. cond (o == i) (meaning.after v c) c) (sym (sees_is meaning opening h w.1 a i))

  -- an access leaves what every other that stands sees
  pub sees_after_access_other : (h : History V) (a o : ℕ) (v : V) → Orderly (Accessed a o v ▹ h) → (y i : ℕ)
      → stands h y ≡ true → y ≢ a → sees meaning opening (Accessed a o v ▹ h) y i ≡ sees meaning opening h y i
  sees_after_access_other h a o v w y i l n =
      both (Accessed a o v ▹ h) h w w.1 y y i
      (seen_access_other meaning opening.contents h a o v y i w.0.standing
      (λ m. n (sym (alone h (parents_are_older h w.1) (stands_upward h w.1) a y l m w.0.childless))))

  -- an access leaves what is there for good
  pub base_after_access : (h : History V) (a o : ℕ) (v : V) → Orderly (Accessed a o v ▹ h) → (i : ℕ)
      → base meaning opening (Accessed a o v ▹ h) i ≡ base meaning opening h i
  base_after_access h a o v w i =
      for_base (Accessed a o v ▹ h) h w w.1 i
      (sees_after_access_other h a o v w 0 i (base_stands h w.1) (λ e. w.0.not_base (sym e)))

  -- an abort leaves what those see that still stand
  pub sees_after_abort : (h : History V) (z : List ℕ) → Orderly (Aborted z ▹ h) → (y o : ℕ)
      → stands (Aborted z ▹ h) y ≡ true → sees meaning opening (Aborted z ▹ h) y o ≡ sees meaning opening h y o
  sees_after_abort h z w y o l = both (Aborted z ▹ h) h w w.1 y y o (seen_abort meaning opening.contents h z y o w.1 l)

  -- an abort leaves what is there for good
  pub base_after_abort : (h : History V) (z : List ℕ) → Orderly (Aborted z ▹ h) → (o : ℕ)
      → base meaning opening (Aborted z ▹ h) o ≡ base meaning opening h o
  base_after_abort h z w o =
      for_base (Aborted z ▹ h) h w w.1 o (sees_after_abort h z w 0 o (base_stands (Aborted z ▹ h) w))

  module _ (h : History V) (s : ℕ) (w : Orderly (Committed s ▹ h)) (gd : Guarded meaning.writes h) (y : ℕ)
      (ly : stands h y ≡ true) (ne : y ≢ s) (o : ℕ) where
    wrote : contains (writers meaning h o) s ≡ true
        → (a : ℕ) × (has_used meaning.writes h a o false ≡ true) × (owner_by_steps h a ≡ Some s)
    wrote k = grind (arith, nat_tests, used_by_found meaning.writes, listed meaning.writes h w.1 o s k, at_some)

    wrote_nothing : contains (writers meaning h o) s ≡ false → (a : ℕ) → has_used meaning.writes h a o false ≡ true
        → owner_by_steps h a ≢ Some s
    wrote_nothing k a u e = grind (arith, nat_tests, contains_holders, used_by_from, some_at)

    -- after a commit, who is under the parent sees as the action saw where it wrote, and else as before
    pub sees_after_commit : sees meaning opening (Committed s ▹ h) y o
        ≡ cond (contains (writers meaning h o) s && is_ancestor h (parent h s) y) (sees meaning opening h s o)
        (sees meaning opening h y o)
    sees_after_commit =
        let as_s = seen_as_s meaning opening.contents h s y w.1 gd w.0 ly ne in
        let aside = seen_aside meaning opening.contents h s y w.1 gd w.0 ly ne in
        let same = seen_same meaning opening.contents h s y w.1 gd w.0 ly ne in
        let agree = both (Committed s ▹ h) h w w.1 y in let up = cases_Bool (is_ancestor h (parent h s) y) in
        grind (arith, nat_tests, agree, wrote, wrote_nothing, as_s, aside, same, up)

  -- after a topaction's commit what it saw, where it wrote, is there for good; all else stays
  pub base_after_commit : (h : History V) (s : ℕ) → Orderly (Committed s ▹ h) → Guarded meaning.writes h → (o : ℕ)
      → base meaning opening (Committed s ▹ h) o
      ≡ cond (contains (writers meaning h o) s && parent h s == 0) (sees meaning opening h s o)
      (base meaning opening h o)
  base_after_commit h s w gd o =
      let now = sees_base (Committed s ▹ h) w o in let then = sees_base h w.1 o in
      let sees_now = sees_after_commit h s w gd 0 (base_stands h w.1) in
      grind (arith, nat_tests, lineage-base h, now, sees_now, then)
