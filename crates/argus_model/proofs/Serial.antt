-- What stands sees what the serial order up to it leaves, and that order gives each answer again.
use Rattle.std.proofs.Common.{Bool, List, None, Option, Some, [], ap, append-nil, append_assoc, arith, cond, false}
use Rattle.std.proofs.Common.{refl, subst, sym, true, ℕ, ⊎_elim, ◌++◌, ◌<◌, ◌∙◌, ◌∷◌, ◌≡◌, ◌≢◌}
use Rattle.std.proofs.lemmas.Bool.{both_ways, cases_Bool, cases_eq, eq-eqb, false_from_ne_true, ne_eqb}
use Rattle.std.proofs.lemmas.Bool.Decides.{nat_tests}
use Rattle.std.specs.Prelude.{◌==◌}
use Rattle.argus_model.specs.{Ancestors.{is_ancestor, lineage, parent}, History.{History, Opened, next_action, ◌▹◌}}
use Rattle.argus_model.specs.{HolderSteps.has_used, Event.{Aborted, Accessed, Began, Committed, Origin, origin_parent}}
use Rattle.argus_model.specs.Numbers.{contains}
use Rattle.argus_model.specs.{Meaning.{Fits, Meaning}, Work.{Access, all_of, content_after, serial_order_to, work}}
use Rattle.argus_model.specs.OwnerSteps.{StandsAlone, owner_inherited, owner_by_steps, stands, unless_lost}
use Rattle.argus_model.specs.WorkSteps.{LawfulAccess, LawfulSteps, Replays, owner_passes, visible_accesses}
use Rattle.argus_model.proofs.Ancestors.{lineage_cases, lineage_old, next_pos, parent_older, split_lineage, under_below}
use Rattle.argus_model.proofs.Ancestors.{ParentsAreOlder, Split, ancestor_le, ancestor_self, ancestor_trans}
use Rattle.argus_model.proofs.{Bools.same_bool, Contents.{accesses_by_agree, content_front, content_past, replays_on}}
use Rattle.argus_model.proofs.Exclusion.{Guarded, above_parent, exclusion, has_used_all, has_used_begun}
use Rattle.argus_model.proofs.Numbers.{any_found, joined_left}
use Rattle.argus_model.proofs.Work.{touches_all, user_of, all_of-append, all_of_agree, find_writer, no_work, touches}
use Rattle.argus_model.proofs.{Work.touches-all_of, Standing.{stands_begun, stands_commit, stands_old, stands_upward}}
use Rattle.argus_model.proofs.Standing.{Orderly, alone, at_some, handed_from, handed_stays, kept_stays, owner_begun}
use Rattle.argus_model.proofs.Standing.{owner_cases, parent_begun, parents_are_older, some_at, stands_abort}

-- a lineage is y and then a rest of smaller numbers
pub record Rest {V : Type 0} (h : History V) (y : ℕ) : Type 0 where
  pub rest : List ℕ
  pub is : lineage h y ≡ y ∷ rest
  pub less : (z : ℕ) → contains rest z ≡ true → z < y

-- the lineage of the base is the base alone
pub lineage-base : {V : Type 0} (h : History V) → lineage h 0 ≡ 0 ∷ []
lineage-base (Opened n) = refl
lineage-base (Began from ▹ h) = lineage_old h from 0 (let q = next_pos h in omega arith) ∙ lineage-base h
lineage-base (_ ▹ h) = lineage-base h

-- the serial order up to the base is the work of the base
pub serial_to-base : {V : Type 0} (h : History V) → serial_order_to h 0 ≡ work h 0
serial_to-base h = ap (all_of (work h)) (lineage-base h) ∙ append-nil (work h 0)

rest_of : {V : Type 0} (h : History V) → ParentsAreOlder h → (y : ℕ) → y < next_action h → Rest h y
rest_of h f y l = grind (arith, nat_tests, lineage-base h, parent_older h y f, ancestor_le h, cases_eq y 0)

-- the base stands
pub base_stands : {V : Type 0} (h : History V) → Orderly h → stands h 0 ≡ true
base_stands (Opened n) w = refl
base_stands (Began from ▹ h) w = stands_old h from 0 (let q = next_pos h in omega arith) ∙ base_stands h w.1
base_stands (Committed s ▹ h) w = grind (arith, nat_tests, base_stands h w.1)
base_stands (Aborted z ▹ h) w =
    let f = parents_are_older h w.1 in let b = base_stands h w.1 in
    grind (arith, nat_tests, any_found, ancestor_le h, f, next_pos h, b, at_some, some_at, kept_stays, w.0)
base_stands (Accessed a o v ▹ h) w = base_stands h w.1

-- two tests of the owner agree where they agree at each owner
owner_passes_agree : (t u : ℕ → Bool) (o : Option ℕ) → ((x : ℕ) → o ≡ Some x → t x ≡ u x)
    → owner_passes t o ≡ owner_passes u o
owner_passes_agree t u None a = refl
owner_passes_agree t u (Some x) a = a x refl

owner_passes_handed : (t u : ℕ → Bool) (s p : ℕ) (o : Option ℕ) → (o ≡ Some s → t s ≡ u p)
    → ((x : ℕ) → o ≡ Some x → x ≢ s → t x ≡ u x) → owner_passes t o ≡ owner_passes u (owner_inherited s p o)
owner_passes_handed t u s p None a b = refl
owner_passes_handed t u s p (Some x) a b =
    grind (arith, nat_tests, handed_from s p (Some x), handed_stays s p (Some x) x refl, cases_eq x s)

owner_passes_kept : (t : ℕ → Bool) (lost : ℕ → Bool) (o : Option ℕ)
    → ((x : ℕ) → o ≡ Some x → lost x ≡ true → t x ≡ false) → owner_passes t o ≡ owner_passes t (unless_lost lost o)
owner_passes_kept t lost None a = refl
owner_passes_kept t lost (Some x) a = grind (arith, nat_tests, cases_Bool (lost x))

module _ {V C A : Type 0} (meaning : Meaning V C A) (contents : ℕ → C) where
  -- what is lawful by steps is orderly
  pub orderly : (h : History V) → LawfulSteps meaning contents h → Orderly h
  orderly (Opened n) w = tt
  orderly (Accessed a o v ▹ h) w = (w.0.alone, orderly h w.1)
  orderly (_ ▹ h) w = (w.0, orderly h w.1)

  -- in what is lawful by steps each access got its lock
  pub guarded : (h : History V) → LawfulSteps meaning contents h → Guarded meaning.writes h
  guarded (Opened n) w = tt
  guarded (Accessed a o v ▹ h) w = (w.0.lock, guarded h w.1)
  guarded (_ ▹ h) w = guarded h w.1

  -- y sees what the serial order up to y leaves, and that order replays
  pub record Serial (h : History V) (y : ℕ) : Type 0 where
    pub sees : (o : ℕ)
        → content_after meaning contents o (serial_order_to h y)
        ≡ content_after meaning contents o (visible_accesses h y)
    pub replays : Replays meaning contents (serial_order_to h y)

  abbrev Serials : History V → Type 0
  Serials h = (y : ℕ) → stands h y ≡ true → Serial h y

  -- the same serial order, and the same sight of each object
  carried : (h g : History V) (x y : ℕ) → serial_order_to g y ≡ serial_order_to h x
      → ((o : ℕ) → content_after meaning contents o (visible_accesses h x)
      ≡ content_after meaning contents o (visible_accesses g y)) → Serial h x → Serial g y
  carried h g x y e v s = grind (arith, nat_tests)

  -- an abort leaves what those see that still stand
  pub seen_abort : (h : History V) (z : List ℕ) (y o : ℕ) → Orderly h → stands (Aborted z ▹ h) y ≡ true
      → content_after meaning contents o (visible_accesses h y)
      ≡ content_after meaning contents o (visible_accesses (Aborted z ▹ h) y)
  seen_abort h z y o w l =
      let k = stands_abort h z y l in let below = λ (x : ℕ). under_below h z x y (parents_are_older h w) in
      grind (arith, nat_tests, k, accesses_by_agree meaning contents o, owner_passes_kept, below, stands_begun h y)

  after_abort : (h : History V) (z : List ℕ) → Orderly h → Serials h → Serials (Aborted z ▹ h)
  after_abort h z w ih y l =
      carried h (Aborted z ▹ h) y y refl (λ o. seen_abort h z y o w l) (ih y (stands_abort h z y l).0)

  -- the owner of what has an access is as before
  has_used_owner : (h : History V) (from : Origin) (a o : ℕ) → Orderly h → has_used meaning.writes h a o false ≡ true
      → owner_by_steps h a ≡ owner_by_steps (Began from ▹ h) a
  has_used_owner h from a o w u =
      grind (arith, nat_tests, has_used_begun meaning.writes h w a o false u, owner_cases h from a)

  -- a new action sees what its parent sees
  pub seen_begin_new : (h : History V) (from : Origin) (y o : ℕ) → Orderly h → y ≡ next_action h
      → content_after meaning contents o (visible_accesses h (origin_parent from))
      ≡ content_after meaning contents o (visible_accesses (Began from ▹ h) y)
  seen_begin_new h from y o w k =
      grind (
        arith,
        nat_tests,
        lineage_cases h from y,
        accesses_by_agree meaning contents o,
        owner_passes_agree,
        owner_begun h,
        parents_are_older h w,
        has_used_owner h from,
      )

  -- a begin leaves what every other sees
  pub seen_begin_old : (h : History V) (from : Origin) (y o : ℕ) → Orderly h → y ≢ next_action h
      → content_after meaning contents o (visible_accesses h y)
      ≡ content_after meaning contents o (visible_accesses (Began from ▹ h) y)
  seen_begin_old h from y o w k =
      grind (arith, nat_tests, lineage_old h from y, accesses_by_agree meaning contents o, has_used_owner h from)

  after_begin : (h : History V) (from : Origin) → Orderly h → stands h (origin_parent from) ≡ true → Serials h
      → Serials (Began from ▹ h)
  after_begin h from w lp ih y l =
      grind (arith, nat_tests, carried h, no_work h w y, seen_begin_new, seen_begin_old, stands_old, lineage_cases)

  -- who accesses an object sees there what the access leaves, and in others what it saw
  pub seen_access_own : (h : History V) (a o : ℕ) (v : V) (i : ℕ) → stands h a ≡ true
      → content_after meaning contents i (visible_accesses (Accessed a o v ▹ h) a)
      ≡ cond (o == i) (meaning.after v (content_after meaning contents i (visible_accesses h a)))
      (content_after meaning contents i (visible_accesses h a))
  seen_access_own h a o v i la = grind (arith, nat_tests, at_some (owner_by_steps h a) a la, ancestor_self h a)

  -- an access leaves what those see that are not under its action
  pub seen_access_other : (h : History V) (a o : ℕ) (v : V) (y i : ℕ) → stands h a ≡ true
      → (is_ancestor h a y ≡ true → ⊥)
      → content_after meaning contents i (visible_accesses h y)
      ≡ content_after meaning contents i (visible_accesses (Accessed a o v ▹ h) y)
  seen_access_other h a o v y i la n = grind (arith, nat_tests, at_some (owner_by_steps h a) a la)

  access_here : (h : History V) (a o : ℕ) (v : V) → Orderly h → stands h a ≡ true
      → Fits meaning v (content_after meaning contents o (visible_accesses h a)) → Serials h
      → Serial (Accessed a o v ▹ h) a
  access_here h a o v w la q ih =
      grind (
        arith,
        nat_tests,
        rest_of h (parents_are_older h w) a (stands_begun h a la),
        parents_are_older h w,
        stands_begun h a la,
        all_of_agree,
        seen_access_own h a o v,
      )

  after_access : (h : History V) (a o : ℕ) (v : V) → Orderly h → LawfulAccess meaning contents h a o v → Serials h
      → Serials (Accessed a o v ▹ h)
  after_access h a o v w now ih y l =
      grind (
        arith,
        nat_tests,
        access_here h a o v w,
        alone h (parents_are_older h w) (stands_upward h w) a y l,
        parents_are_older h w,
        stands_upward h w,
        carried h,
        all_of_agree,
        seen_access_other h a o v y,
        cases_eq a y,
      )

  module _ (h : History V) (s y : ℕ) (w : Orderly h) (gd : Guarded meaning.writes h) (now : StandsAlone h s)
      (ly : stands h y ≡ true) (ne : y ≢ s) where
    not_below : is_ancestor h s y ≡ true → ⊥
    not_below m = ne (sym (alone h (parents_are_older h w) (stands_upward h w) s y ly m now.childless))

    work_stays : (z : ℕ) → parent h s ≢ z → work (Committed s ▹ h) z ≡ work h z
    work_stays z k = ap (λ b. cond b (work h s ++ work h z) (work h z)) (ne_eqb (parent h s) z k)

    lineage_s : lineage h s ≡ s ∷ lineage h (parent h s)
    lineage_s =
        (parent_older h s (parents_are_older h w) (omega (arith, now.not_base)) (stands_begun h s now.standing)).1

    serial_s : serial_order_to h s ≡ work h s ++ serial_order_to h (parent h s)
    serial_s = ap (all_of (work h)) lineage_s

    -- the serial order to the parent is now the one to s
    serial_p : all_of (work (Committed s ▹ h)) (lineage h (parent h s)) ≡ serial_order_to h s
    serial_p =
        let p = parent h s in let g = Committed s ▹ h in
        let r = rest_of h (parents_are_older h w) p (parent_begun h s (parents_are_older h w)) in
        ap (all_of (work g)) r.is
        ∙ ap (λ b. cond b (work h s ++ work h p) (work h p) ++ all_of (work g) r.rest) (eq-eqb p p refl)
        ∙ ap (λ es. (work h s ++ work h p) ++ es)
        (all_of_agree (work g) (work h) r.rest (λ z m. work_stays z (λ k. let lz = r.less z m in omega arith)))
        ∙ append_assoc (work h s) (work h p) (all_of (work h) r.rest)
        ∙ ap (λ es. work h s ++ es) (sym (ap (all_of (work h)) r.is))
        ∙ sym serial_s

    -- where no writer is owned by s
    spared : (o : ℕ) → ((a : ℕ) → has_used meaning.writes h a o false ≡ true → owner_by_steps h a ≢ Some s)
        → content_after meaning contents o (serial_order_to h (parent h s))
        ≡ content_after meaning contents o (serial_order_to h s)
    spared o none =
        let k : touches meaning.writes (work h s) o false ≡ false =
        false_from_ne_true (touches meaning.writes (work h s) o false)
        (λ m. let u = user_of meaning.writes h w s o false now.standing m in none u.action u.uses u.owned) in
        sym (ap (content_after meaning contents o) serial_s
        ∙ content_past meaning contents o (work h s) (serial_order_to h (parent h s)) k)

    module _ (above : is_ancestor h (parent h s) y ≡ true) where
      cut : Split (lineage h y) (lineage h (parent h s)) (parent h s)
      cut = split_lineage h (parent h s) y (parents_are_older h w) (stands_begun h y ly) above

      -- what was done between the parent and y
      between : List (Access V)
      between = all_of (work h) cut.front

      serial_before : serial_order_to h y ≡ between ++ serial_order_to h (parent h s)
      unfolding between
      serial_before = ap (all_of (work h)) cut.is ∙ all_of-append (work h) cut.front (lineage h (parent h s))

      serial_after : serial_order_to (Committed s ▹ h) y ≡ between ++ serial_order_to h s
      unfolding between
      serial_after = grind (arith, nat_tests, all_of-append, all_of_agree, work_stays, serial_p)

      -- what a writer that s owns wrote, no one between has touched
      apart : (o a : ℕ) → has_used meaning.writes h a o false ≡ true → owner_by_steps h a ≡ Some s
          → touches meaning.writes between o true ≡ false
      unfolding between
      apart o a ua ea = false_from_ne_true (touches meaning.writes between o true) (λ m.
          let t = touches-all_of meaning.writes (work h) cut.front o true m in
          let z = t.by in
          let az : is_ancestor h z y ≡ true =
          subst (λ es. contains es z ≡ true) (sym cut.is)
          (joined_left cut.front (lineage h (parent h s)) z t.among) in
          let lz = stands_upward h w z y ly az in
          let u = user_of meaning.writes h w z o true lz t.touch in
          let zs : z ≢ s = λ e. not_below (subst (λ q. is_ancestor h q y ≡ true) e az) in
          ⊎_elim
          (λ k. zs (sym (alone h (parents_are_older h w) (stands_upward h w) s z lz k now.childless)))
          (λ k. let q =
          ancestor_le h z (parent h s) (parents_are_older h w) (parent_begun h s (parents_are_older h w))
          (above_parent h (parents_are_older h w) s z now.not_base now.standing zs k) in
          let b = cut.above z t.among in omega arith)
          (exclusion meaning.writes h w gd a u.action o s z ua u.uses ea u.owned))

      -- after the commit of s, who is under its parent sees as before what s had not written
      pub seen_same : (o : ℕ) → ((a : ℕ) → has_used meaning.writes h a o false ≡ true → owner_by_steps h a ≢ Some s)
          → content_after meaning contents o (visible_accesses h y)
          ≡ content_after meaning contents o (visible_accesses (Committed s ▹ h) y)
      seen_same o none = grind (arith, nat_tests, accesses_by_agree meaning contents o, owner_passes_handed)

      -- after the commit of s, who is under its parent sees as s saw what s had written
      pub seen_as_s : (o a : ℕ) → has_used meaning.writes h a o false ≡ true → owner_by_steps h a ≡ Some s
          → content_after meaning contents o (visible_accesses h s)
          ≡ content_after meaning contents o (visible_accesses (Committed s ▹ h) y)
      seen_as_s o a ua ea =
          let f = parents_are_older h w in let p = parent h s in let yl = stands_begun h y ly in
          accesses_by_agree meaning contents o (λ b. owner_passes (λ x. is_ancestor h x s) (owner_by_steps h b))
          (λ b. owner_passes (λ x. is_ancestor h x y) (owner_inherited s p (owner_by_steps h b))) h
          (λ b u. owner_passes_handed (λ x. is_ancestor h x s) (λ x. is_ancestor h x y) s p (owner_by_steps h b)
          (λ e. ancestor_self h s ∙ sym above)
          (λ x e k. same_bool (is_ancestor h x s) (is_ancestor h x y)
          (λ m. ancestor_trans h x p y f yl (above_parent h f s x now.not_base now.standing k m) above)
          (λ m. ⊎_elim (λ q. absurd (not_below (ancestor_trans h s x y f yl q m))) (λ q. q)
          (exclusion meaning.writes h w gd a b o s x ua (has_used_all meaning.writes h b o true u) ea e))))

      commit_above : Serials h → Serial (Committed s ▹ h) y
      commit_above ih = record {
        sees = λ o. ap (content_after meaning contents o) serial_after ∙ ⊎_elim
            (λ k. content_past meaning contents o between (serial_order_to h s)
            (touches_all meaning.writes between o (apart o k.0 k.1 k.2)) ∙ (ih s now.standing).sees o
            ∙ seen_as_s o k.0 k.1 k.2)
            (λ none. content_front meaning contents o between (serial_order_to h s) (serial_order_to h (parent h s))
            (sym (spared o none)) ∙ sym (ap (content_after meaning contents o) serial_before) ∙ (ih y ly).sees o
            ∙ seen_same o none)
            (find_writer meaning.writes h h s o);
        replays = subst (λ es. Replays meaning contents es) (sym serial_after)
            (replays_on meaning contents between (serial_order_to h (parent h s)) (serial_order_to h s)
            (λ o m. ⊎_elim (λ k. absurd (both_ways (touches meaning.writes between o true) (apart o k.0 k.1 k.2) m))
            (λ none. spared o none) (find_writer meaning.writes h h s o))
            (subst (λ es. Replays meaning contents es) serial_before (ih y ly).replays)
            (ih s now.standing).replays);
      }

    -- after the commit of s, who is not under its parent sees as before
    pub seen_aside : is_ancestor h (parent h s) y ≡ false → (o : ℕ)
        → content_after meaning contents o (visible_accesses h y)
        ≡ content_after meaning contents o (visible_accesses (Committed s ▹ h) y)
    seen_aside off o = grind (arith, nat_tests, accesses_by_agree meaning contents o, owner_passes_handed, not_below)

    commit_aside : is_ancestor h (parent h s) y ≡ false → Serials h → Serial (Committed s ▹ h) y
    commit_aside off ih = grind (arith, nat_tests, carried, all_of_agree, work_stays, seen_aside off)

  after_commit : (h : History V) (s : ℕ) → Orderly h → Guarded meaning.writes h → StandsAlone h s → Serials h
      → Serials (Committed s ▹ h)
  after_commit h s w g now ih y l =
      let k = stands_commit h (parents_are_older h w) (stands_upward h w) s y now.not_base now.standing l in
      ⊎_elim
      (λ m. commit_above h s y w g now k.0 k.1 m ih)
      (λ m. commit_aside h s y w g now k.0 k.1 m ih)
      (cases_Bool (is_ancestor h (parent h s) y))

  -- whatever stands sees what the serial order up to it leaves, and that order replays
  pub serials : (h : History V) → LawfulSteps meaning contents h → Serials h
  serials (Opened n) w = grind (arith, nat_tests)
  serials (Began from ▹ h) w = after_begin h from (orderly h w.1) w.0 (serials h w.1)
  serials (Committed s ▹ h) w = after_commit h s (orderly h w.1) (guarded h w.1) w.0 (serials h w.1)
  serials (Aborted z ▹ h) w = after_abort h z (orderly h w.1) (serials h w.1)
  serials (Accessed a o v ▹ h) w = after_access h a o v (orderly h w.1) w.0 (serials h w.1)

  -- the base sees what the serial order up to it leaves, and that order replays
  pub base_serial : (h : History V) → LawfulSteps meaning contents h → Serial h 0
  base_serial h w = serials h w 0 (base_stands h (orderly h w))
