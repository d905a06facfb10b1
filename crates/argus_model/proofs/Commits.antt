-- What a commit adds to the effects and to the serial order, and how a history goes on from its fold.
use Rattle.std.proofs.Common.{[], ap, append-nil, arith, cond, false, refl, sym, true, ℕ, ◌++◌, ◌-◌, ◌∙◌, ◌∷◌, ◌≡◌, ◌≢◌}
use Rattle.std.proofs.{lemmas.Bool.ne_eqb, lemmas.Bool.Decides.nat_tests}
use Rattle.std.specs.Prelude.{map, ◌==◌}
use Rattle.argus_model.specs.{Ancestors.parent, Work.{committed_topactions, serial_order, work}, Contents.{base, sees}}
use Rattle.argus_model.specs.{Lawful.Lawful, Fold.fold, Holders.writers, Meaning.Meaning, Numbers.contains}
use Rattle.argus_model.specs.{Event.{Committed, Event}, Effects.{added_effects, effects, table, written_objects}}
use Rattle.argus_model.specs.{Status.{is_begun, is_live}, History.{History, Opened, HistoryOpening, next_action, ◌▹◌}}
use Rattle.argus_model.proofs.{Ancestors.next_pos, Lawful.{lawful_orderly, lawful_steps}, Topactions.tops_same}
use Rattle.argus_model.proofs.{Holders.contains_holders, Live.{is_begun_parts, live_stands, stands_is_live}}
use Rattle.argus_model.proofs.Effects.{effect_seen, effects_grow, effects_stay, map_agree, written_holds}
use Rattle.argus_model.proofs.{Sees.sees_is, Work.work_final}
use Rattle.argus_model.proofs.{Standing.{parent_is, parents_are_older}, Theorems.{table_continues, table_is_base}}

module _ {V C A : Type 0} (meaning : Meaning V C A) (opening : HistoryOpening C) where
  stays : (h : History V) (e : Event V) → Lawful meaning opening (e ▹ h)
      → committed_topactions (e ▹ h) ≡ committed_topactions h
      → effects meaning opening (e ▹ h) ≡ effects meaning opening h ++ []
  stays h e l same =
      effects_stay meaning opening h e (lawful_orderly meaning opening h l.1) (lawful_orderly meaning opening (e ▹ h) l)
      same
      ∙ sym (append-nil (effects meaning opening h))

  -- the commit of a topaction adds its effect: what it sees in each object that it has written
  pub effect_added : (h : History V) (s : ℕ) → Lawful meaning opening (Committed s ▹ h) → parent h s ≡ 0
      → effects meaning opening (Committed s ▹ h)
      ≡ effects meaning opening h ++ map (λ o. (o, sees meaning opening h s o))
      (written_objects meaning (work h s)) ∷ []
  effect_added h s l e =
      let st = lawful_steps meaning opening h l.1 in
      let u = lawful_orderly meaning opening (Committed s ▹ h) l in
      let seen = effect_seen meaning opening h st s u.0.not_base u.0.standing e in
      let same = sees_is meaning opening h (lawful_orderly meaning opening h l.1) s in
      grind (arith, nat_tests, effects_grow meaning opening h s u e, seen, map_agree, same)

  -- the objects that a live action's work writes are those that it holds for writing
  pub written_are_held : (h : History V) (s o : ℕ) → Lawful meaning opening h → is_live h s ≡ true
      → contains (written_objects meaning (work h s)) o ≡ contains (writers meaning h o) s
  written_are_held h s o l k = grind (arith, nat_tests, lawful_orderly, live_stands, written_holds, contains_holders)

  -- the commit of a subaction adds no effect
  pub no_effect : (h : History V) (s : ℕ) → Lawful meaning opening (Committed s ▹ h) → parent h s ≢ 0
      → effects meaning opening (Committed s ▹ h) ≡ effects meaning opening h
  no_effect h s l n =
      effects_stay meaning opening h (Committed s) (lawful_orderly meaning opening h l.1)
      (lawful_orderly meaning opening (Committed s ▹ h) l)
      (ap (λ q. cond q (s ∷ committed_topactions h) (committed_topactions h)) (ne_eqb (parent h s) 0 n))

  -- the commit of a topaction adds its effect, and nothing else adds one
  pub effects_step : (h : History V) (e : Event V) → Lawful meaning opening (e ▹ h)
      → effects meaning opening (e ▹ h) ≡ effects meaning opening h ++ added_effects meaning opening h e
  effects_step h (Committed a) l = grind (arith, nat_tests, effect_added, no_effect, append-nil)
  effects_step h e l = stays h e l refl

  -- the commit of a topaction puts its work last in the serial order; that of a subaction leaves it
  pub order_added : (h : History V) (s : ℕ) → Lawful meaning opening (Committed s ▹ h)
      → serial_order (Committed s ▹ h) ≡ cond (parent h s == 0) (work h s ++ serial_order h) (serial_order h)
  order_added h s l =
      let w = lawful_orderly meaning opening h l.1 in let u = lawful_orderly meaning opening (Committed s ▹ h) l in
      grind (arith, nat_tests, w, u, tops_same h (Committed s), parent_is h, parents_are_older h)

  -- the work of an action that is over stays as it is
  pub over_is_final : (h : History V) (e : Event V) (a : ℕ) → Lawful meaning opening (e ▹ h) → is_begun h a ≡ true
      → is_live h a ≡ false → work (e ▹ h) a ≡ work h a
  over_is_final h e a l k n =
      let w = lawful_orderly meaning opening h l.1 in let u = lawful_orderly meaning opening (e ▹ h) l in
      grind (arith, nat_tests, is_begun_parts h a k, work_final h e, u, w, stands_is_live h)

  -- after a fold the next action gets the number that it would have got
  pub fold_numbers : (h : History V) → next_action {V = V} (Opened (next_action h - 1)) ≡ next_action h
  fold_numbers h = let k = next_pos h in omega arith

  -- the effects before a fold, and then those after it, make what is there for good
  pub fold_table : (h : History V) (entries : ℕ) (later : History V) (o : ℕ) → Lawful meaning opening h
      → Lawful meaning (fold meaning opening h entries) later
      → table opening.contents (effects meaning opening h ++ effects meaning (fold meaning opening h entries) later) o
      ≡ base meaning (fold meaning opening h entries) later o
  fold_table h entries later o l k =
      table_continues meaning (fold meaning opening h entries) opening.contents (effects meaning opening h) later o
      (λ x. table_is_base meaning opening h x l) k
