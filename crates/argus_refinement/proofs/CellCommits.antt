-- A cell when its holder commits: what a subaction held is its parent's, what a topaction wrote is the base.
use Rattle.std.proofs.Common.{List, None, Some, [], ap, arith, cond, false, inl, inr, refl, subst, sym, true, ℕ, ◌+◌}
use Rattle.std.proofs.{Common.{◌<◌, ◌∙◌, ◌∷◌, ◌≡◌, ◌≢◌, ◌||◌, ⊎_elim}, lemmas.Bool.{Decides.nat_tests, and_parts}}
use Rattle.std.proofs.lemmas.Bool.{both_ways, cases_Bool, cases_eq, eq-eqb, or_cases, false≢true}
use Rattle.std.specs.{Option.unwrap_or, Prelude.{map, not, ◌&&◌, ◌==◌}}
use Rattle.argus_actions.specs.{Tree.{Tree, after_commit, is_ancestor, parent_of}, declared.action_id.ActionId.ActionId}
use Rattle.argus_actions.{specs.declared.status.Status.TheVariants.Committed as became_committed, proofs.Above.above_le}
use Rattle.argus_actions.proofs.{Above.{above_top, above_up}, Marks.is_above-mark}
use Rattle.argus_entries.specs.Entry.{PlainEntry}
use Rattle.argus_refinement.{specs.{CellRefinement.{AreSeen, IsCell}, TreeRefinement.IsTree}, proofs.CellHolders.above}
use Rattle.argus_refinement.proofs.CellHolders.{orderly, seen_filter, seen_step, version_live, writer_live}
use Rattle.argus_refinement.proofs.{TreeAnswers.{no_parent_is, parent_is}, CellLists.{inherits_own, inherits_parent}}
use Rattle.argus_refinement.proofs.CellLists.{filter_said, has_filtered, lawful_more, inherited_said, inherits_other}
use Rattle.argus_refinement.proofs.TreeRows.{eqb_up}
use Rattle.argus_model.proofs.{Siblings.live_begun, Ancestors.ancestor_self, Lawful.lawful_steps, Live.live_stands}
use Rattle.argus_model.proofs.NextHolders.{holders_after_commit, inherited_other, inherited_own, inherited_parent}
use Rattle.argus_model.proofs.{NextSees.{base_after_commit, sees_after_commit}, Numbers.joined, Serial.guarded}
use Rattle.argus_model.proofs.Theorems.{ancestor_live, ancestor_older, live_alone, one_above_the_other}
use Rattle.argus_model.{proofs.Standing.{Orderly, parent_is as parent_step, parents_are_older}, specs.Contents.base}
use Rattle.argus_model.specs.{Contents.sees, Event.Committed, History.{History, ◌▹◌}, Lawful.Lawful, Holders.inherited}
use Rattle.argus_model.specs.{Holders.{readers, writers}, Meaning.reads, OwnerSteps.stands, Status.is_live}
use Rattle.argus_model.specs.Numbers.{contains, without}
use Rattle.argus_journal.specs.{Entries.entries, Opening.{Opening, model_opening}}
use Rattle.argus_objects.specs.CellChanges.{version_inherited, has_version, readers_inherited, version_of}
use Rattle.argus_objects.specs.{CellChanges.{versions_inherited, without_reader, without_version}, Rules.is_lawful}
use Rattle.argus_objects.{specs.Object.{Object, PlainVersion}, proofs.Stacks.{version_of_none, same_id}}
use Rattle.argus_model.specs.Ancestors as model

parent_known : (h : History PlainEntry) → Orderly h → (x : ℕ) → x ≢ 0 → stands h x ≡ true
    → (model.parent h x < x) × (model.is_ancestor h (model.parent h x) x ≡ true)
parent_known h w x n st = parent_step h (parents_are_older h w) x n st

-- what the version of a holder has
pub seen_at : (s : Opening) (h : History PlainEntry) (o : ℕ) (a : ActionId) (vs : List PlainVersion) → AreSeen s h o vs
    → has_version a vs ≡ true → version_of a vs ≡ Some (sees entries (model_opening s) h (a.0 + 1) o)
seen_at s h o a [] k e = absurd (false≢true e)
seen_at s h o a (v ∷ vs) k e = grind (arith, nat_tests, seen_at s h o a vs k.1)

-- a cell where the action holds nothing
without_none : (n : ℕ) (xs : List ℕ) → contains xs n ≡ false → without n xs ≡ xs
without_none n [] e = refl
without_none n (x ∷ xs) e = grind (arith, nat_tests, without_none n xs)

module _ (s : Opening) (h : History PlainEntry) (t : Tree) (is : IsTree t h) (a : ActionId)
    (l : Lawful entries (model_opening s) (Committed (a.0 + 1) ▹ h)) where
  pub now : Orderly (Committed (a.0 + 1) ▹ h)
  now = orderly s (Committed (a.0 + 1) ▹ h) l

  -- another holder of a version is an ancestor of who commits
  other_above : (o : ℕ) (x : ActionId) → contains (writers entries h o) (a.0 + 1) ≡ true
      → contains (writers entries h o) (x.0 + 1) ≡ true → x.0 ≢ a.0 → model.is_ancestor h (x.0 + 1) (a.0 + 1) ≡ true
  other_above o x wa wx ne = ⊎_elim
      (λ up. absurd (ne (omega (
        arith,
        live_alone entries (model_opening s) h (a.0 + 1) (x.0 + 1) l.1
            (writer_live s h l.1 o (x.0 + 1) wx) up l.0.1,
      ))))
      (λ up. up)
      (or_cases _ _ (one_above_the_other entries (model_opening s) h o (a.0 + 1) (x.0 + 1) l.1 wa
      (joined (readers entries h o) (writers entries h o) (x.0 + 1) wx)))

  marked : (x y : ℕ) → is_ancestor t x y ≡ true → is_ancestor (after_commit t a.0) x y ≡ true
  marked x y up = is_above-mark t.folded (λ k. k == a.0) became_committed t.rows x y ∙ up

  sees_now : (x : ActionId) (o : ℕ) → is_live h (x.0 + 1) ≡ true → x.0 ≢ a.0
      → sees entries (model_opening s) (Committed (a.0 + 1) ▹ h) (x.0 + 1) o
      ≡ cond (contains (writers entries h o) (a.0 + 1) && model.is_ancestor h (model.parent h (a.0 + 1)) (x.0 + 1))
      (sees entries (model_opening s) h (a.0 + 1) o) (sees entries (model_opening s) h (x.0 + 1) o)
  sees_now x o lx ne =
      sees_after_commit entries (model_opening s) h (a.0 + 1) now
      (guarded entries (model_opening s).contents h (lawful_steps entries (model_opening s) h l.1)) (x.0 + 1)
      (live_stands h (orderly s h l.1) (x.0 + 1) lx).1 (λ e. ne (omega arith)) o

  -- a topaction
  module _ (top : parent_of t a.0 ≡ None) where
    pub no_parent : model.parent h (a.0 + 1) ≡ 0
    no_parent = no_parent_is t h is (orderly s h l.1) a.0 (live_begun h (a.0 + 1) l.0.0) top

    alone_there : (o : ℕ) (c : Object) → IsCell s h t o c → (x : ActionId) → has_version a c.versions ≡ true
        → has_version x c.versions ≡ true → x.0 ≢ a.0 → ⊥
    alone_there o c k x ha hx ne =
        ne (above_top t.folded t.rows x.0 a.0 top
        (above s h l.1 t is o c k x a hx l.0.0 ∙ other_above o x (sym (k.writers a) ∙ ha) (sym (k.writers x) ∙ hx) ne))

    pub top_cell : (o : ℕ) (c c' : Object) → IsCell s h t o c → c'.base ≡ unwrap_or (version_of a c.versions) c.base
        → c'.readers ≡ without_reader a c.readers → c'.versions ≡ without_version a c.versions → is_lawful t c' ≡ true
        → IsCell s (Committed (a.0 + 1) ▹ h) (after_commit t a.0) o c'
    top_cell o c c' k b r v lw = record {
      lawful = lawful_more t (after_commit t a.0) marked c' lw;
      base =
          let by_commit = base_after_commit entries (model_opening s) h (a.0 + 1) now (guarded entries
          (model_opening s).contents h (lawful_steps entries (model_opening s) h l.1)) o in
          grind (arith, nat_tests, seen_at, no_parent, version_of_none, by_commit);
      readers =
          let by_said = filter_said (λ x. not (x.0 == a.0)) (λ n. not (n == a.0 + 1)) c.readers in
          let by_commit = holders_after_commit (reads entries) h (a.0 + 1) now o in
          grind (arith, nat_tests, by_said, eqb_up, without_none, no_parent, by_commit);
      writers = λ x.
          let by_filtered = has_filtered (λ n. not (n == a.0)) c.versions x in
          let by_commit = holders_after_commit entries.writes h (a.0 + 1) now o in
          grind (arith, nat_tests, by_filtered, inherited_own, inherited_other, no_parent, k.writers x, by_commit);
      seen =
          subst (AreSeen s (Committed (a.0 + 1) ▹ h) o) (sym v)
          (seen_step s h (Committed (a.0 + 1) ▹ h) o (without_version a c.versions)
          (λ x i.
          let q = and_parts (has_version x c.versions) (not (x.0 == a.0))
          (sym (has_filtered (λ n. not (n == a.0)) c.versions x) ∙ i) in
          let ne : x.0 ≢ a.0 = λ e. both_ways (not (x.0 == a.0)) (ap not (eq-eqb x.0 a.0 e)) q.1 in
          grind (arith, nat_tests, sees_now, version_live, alone_there))
          (seen_filter s h o (λ v. not (v.holder.0 == a.0)) c.versions k.seen));
    }

  -- a subaction
  module _ (p : ActionId) (sub : parent_of t a.0 ≡ Some p) where
    pub up_is : model.parent h (a.0 + 1) ≡ p.0 + 1
    up_is = parent_is t h is (orderly s h l.1) a.0 p (live_begun h (a.0 + 1) l.0.0) sub

    parent_above : model.is_ancestor h (p.0 + 1) (a.0 + 1) ≡ true
    parent_above = grind (arith, nat_tests, up_is, parent_known, orderly, live_stands)

    pub parent_less : p.0 < a.0
    parent_less = grind (arith, nat_tests, parent_known, orderly, live_stands, up_is)

    parent_live : is_live h (p.0 + 1) ≡ true
    parent_live = grind (arith, nat_tests, ancestor_live, parent_above)

    -- another holder stands above the parent, so the parent isn't above it
    not_below : (o : ℕ) (c : Object) → IsCell s h t o c → (x : ActionId) → has_version a c.versions ≡ true
        → has_version x c.versions ≡ true → x.0 ≢ a.0 → x.0 ≢ p.0
        → model.is_ancestor h (model.parent h (a.0 + 1)) (x.0 + 1) ≡ false
    not_below o c k x ha hx na np =
        let lives = version_live s h l.1 t is o c k x hx in
        let older = ancestor_older entries (model_opening s) h (p.0 + 1) (x.0 + 1) l.1 in
        let stands_above = above s h l.1 t is o c k x a hx l.0.0 in
        let over_parent = above_up t.folded t.rows x.0 a.0 p sub in
        let no_newer = above_le t.folded t.rows x.0 p.0 in
        let wrote = k.writers a in
        let also_wrote = k.writers x in
        grind (arith, lives, older, live_begun h (x.0 + 1), up_is, stands_above, other_above o x, over_parent, no_newer)

    versions_seen : (o : ℕ) (vs : List PlainVersion) → ((x : ActionId) → has_version x vs ≡ true → x.0 ≢ a.0 → x.0 ≢ p.0
        → sees entries (model_opening s) (Committed (a.0 + 1) ▹ h) (x.0 + 1) o ≡ sees entries (model_opening s) h
        (x.0 + 1) o)
        → sees entries (model_opening s) (Committed (a.0 + 1) ▹ h) (p.0 + 1) o ≡ sees entries (model_opening s) h
        (a.0 + 1) o
        → AreSeen s h o vs → AreSeen s (Committed (a.0 + 1) ▹ h) o (map (version_inherited a p) (without_version p vs))
    versions_seen o [] f g k = tt
    versions_seen o (v ∷ vs) f g k = grind (arith, nat_tests, versions_seen o vs)

    pub sub_cell : (o : ℕ) (c c' : Object) → IsCell s h t o c → c'.base ≡ c.base
        → c'.readers ≡ readers_inherited a p c.readers → c'.versions ≡ versions_inherited a p c.versions
        → is_lawful t c' ≡ true → IsCell s (Committed (a.0 + 1) ▹ h) (after_commit t a.0) o c'
    sub_cell o c c' k b r v lw = record {
      lawful = lawful_more t (after_commit t a.0) marked c' lw;
      base =
          let by_commit = base_after_commit entries (model_opening s) h (a.0 + 1) now (guarded entries
          (model_opening s).contents h (lawful_steps entries (model_opening s) h l.1)) o in
          grind (arith, nat_tests, up_is, by_commit);
      readers = grind (arith, nat_tests, inherited_said, up_is, holders_after_commit, now);
      writers = λ x.
          ap (has_version x) v
          ∙ elim (cases_eq x.0 a.0) [
            | inl e ↦
                ap (λ y. has_version y (versions_inherited a p c.versions)) (same_id x a e)
                ∙ inherits_own a p c.versions (λ i. omega (arith, parent_less))
                ∙ sym (ap (λ n. contains (inherited (a.0 + 1) (model.parent h (a.0 + 1)) (writers entries h o)) (n + 1))
                e ∙ inherited_own (a.0 + 1) (model.parent h (a.0 + 1)) (writers entries h o)
                (λ i. omega (arith, up_is, parent_less)))
            | inr na ↦ elim (cases_eq x.0 p.0) [
              | inl e ↦
                  ap (λ y. has_version y (versions_inherited a p c.versions)) (same_id x p e)
                  ∙ inherits_parent a p c.versions (λ i. omega (arith, parent_less))
                  ∙ ap (λ b. b || has_version p c.versions) (k.writers a)
                  ∙ ap (λ b. contains (writers entries h o) (a.0 + 1) || b)
                  (k.writers p ∙ ap (contains (writers entries h o)) (sym up_is))
                  ∙ sym (inherited_parent (a.0 + 1) (model.parent h (a.0 + 1)) (writers entries h o)
                  (λ i. omega (arith, up_is, parent_less)) (λ i. omega (arith, up_is)))
                  ∙ ap (contains (inherited (a.0 + 1) (model.parent h (a.0 + 1)) (writers entries h o)))
                  (up_is ∙ sym (ap (λ n. n + 1) e))
              | inr np ↦ grind (arith, nat_tests, inherits_other, inherited_other, up_is)
            ]
          ]
          ∙ ap (λ ws. contains ws (x.0 + 1)) (sym (holders_after_commit entries.writes h (a.0 + 1) now o));
      seen =
          subst (AreSeen s (Committed (a.0 + 1) ▹ h) o) (sym v)
          (elim (cases_Bool (has_version a c.versions)) [
            | inl e ↦
                let own = ancestor_self h (p.0 + 1) in
                let up = up_is in
                grind (arith, nat_tests, versions_seen, sees_now, version_live, not_below, parent_live, parent_less)
            | inr e ↦ grind (arith, nat_tests, seen_step, same_id, sees_now, version_live)
          ]);
    }
