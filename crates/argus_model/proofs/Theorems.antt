-- The laws of every lawful history: exclusion, the serial order, the table of effects.
use Rattle.std.proofs.Common.{List, ap, arith, false, sym, true, ℕ, ◌++◌, ◌<◌, ◌∙◌, ◌∷◌, ◌≡◌, ◌≢◌, ◌≤◌}
use Rattle.std.proofs.{Math.Bool.or_comm, lemmas.Bool.Decides.nat_tests}
use Rattle.std.specs.Prelude.{reverse, ◌||◌}
use Rattle.argus_model.specs.{Ancestors.{is_ancestor, lineage}, WorkSteps.visible_accesses, Holders.{readers, writers}}
use Rattle.argus_model.specs.{Status.{has_live_child, is_begun, is_live}, History.{History, HistoryOpening}}
use Rattle.argus_model.specs.{Contents.{base, sees}, Numbers.contains}
use Rattle.argus_model.specs.{Lawful.Lawful, Run.{AnswersAgain, run}, Effects.{effects, table}, Meaning.{Fits, Meaning}}
use Rattle.argus_model.specs.Work.{Access, all_of, content_after, content_before, serial_order, serial_order_to, work}
use Rattle.argus_model.proofs.{Ancestors.{ancestor_le, ancestor_trans, split_lineage}, Holders.{listed, same_kinds}}
use Rattle.argus_model.proofs.{HolderSteps.exclusive, Serial.{Serial, base_serial, guarded, serial_to-base, serials}}
use Rattle.argus_model.proofs.{Effects.{table-append, table_base, table_goes_on, table_same}, Sees.{base_is, sees_is}}
use Rattle.argus_model.proofs.{Owner.base_above, Work.all_of-append, Numbers.{contains_filter, joined}}
use Rattle.argus_model.proofs.{Lawful.{lawful_orderly, lawful_steps}, Run.{replays_at, run_content, runs}}
use Rattle.argus_model.proofs.Live.{begun_below, child_is, is_begun_parts, live_stands, stands_is_live}
use Rattle.argus_model.proofs.{Standing.{alone, parents_are_older, stands_begun, stands_upward}, Topactions.serial_tops}

module _ {V C A : Type 0} (meaning : Meaning V C A) (opening : HistoryOpening C) where
  -- of a writer and any other holder of an object, one is an ancestor of the other
  pub one_above_the_other : (h : History V) (o x y : ℕ) → Lawful meaning opening h
      → contains (writers meaning h o) x ≡ true → contains (readers meaning h o ++ writers meaning h o) y ≡ true
      → (is_ancestor h x y || is_ancestor h y x) ≡ true
  one_above_the_other h o x y l hx hy =
      let w = lawful_orderly meaning opening h l in
      or_comm (is_ancestor h x y) (is_ancestor h y x)
      ∙ exclusive meaning.writes h w (guarded meaning opening.contents h (lawful_steps meaning opening h l)) o y x
      (same_kinds meaning h w o y hy) (listed meaning.writes h w o x hx)

  serial_is : (h : History V) → Lawful meaning opening h → serial_order_to h 0 ≡ serial_order h
  serial_is h l = serial_to-base h ∙ serial_tops h (lawful_orderly meaning opening h l)

  -- the serial order leaves what is there for good
  pub serial_content : (h : History V) (o : ℕ) → Lawful meaning opening h
      → content_after meaning opening.contents o (serial_order h) ≡ base meaning opening h o
  serial_content h o l = grind (arith, nat_tests, serial_is, base_serial, lawful_steps, base_is, lawful_orderly)

  -- the serial order, run, gives each recorded answer again
  pub serial_answers : (h : History V) → Lawful meaning opening h
      → AnswersAgain meaning opening.contents (reverse (serial_order h))
  serial_answers h l = grind (arith, nat_tests, serial_is, runs, base_serial, lawful_steps)

  -- each access of the serial order is answered by what its object holds just before it
  pub serial_each : (h : History V) (later : List (Access V)) (e : Access V) (earlier : List (Access V))
      → Lawful meaning opening h → serial_order h ≡ later ++ e ∷ earlier
      → Fits meaning e.what (content_before meaning opening.contents e earlier)
  serial_each h later e earlier l q = grind (arith, nat_tests, replays_at, serial_is, base_serial, lawful_steps)

  -- the serial order, run, leaves what is there for good
  pub serial_leaves : (h : History V) (o : ℕ) → Lawful meaning opening h
      → run meaning opening.contents (reverse (serial_order h)) o ≡ base meaning opening h o
  serial_leaves h o l = run_content meaning opening.contents (serial_order h) o ∙ serial_content h o l

  live_serial : (h : History V) (a : ℕ) → Lawful meaning opening h → is_live h a ≡ true
      → Serial meaning opening.contents h a
  live_serial h a l k = grind (arith, nat_tests, serials, lawful_steps, live_stands, lawful_orderly)

  -- the serial order up to a live action, run, gives each recorded answer again
  pub live_answers : (h : History V) (a : ℕ) → Lawful meaning opening h → is_live h a ≡ true
      → AnswersAgain meaning opening.contents (reverse (serial_order_to h a))
  live_answers h a l k = runs meaning opening.contents (serial_order_to h a) (live_serial h a l k).replays

  -- each access of the order up to a live action is answered by what its object holds just before it
  pub live_each : (h : History V) (a : ℕ) (later : List (Access V)) (e : Access V) (earlier : List (Access V))
      → Lawful meaning opening h → is_live h a ≡ true → serial_order_to h a ≡ later ++ e ∷ earlier
      → Fits meaning e.what (content_before meaning opening.contents e earlier)
  live_each h a later e earlier l k q = grind (arith, nat_tests, replays_at, live_serial)

  -- the serial order up to a live action, run, leaves what the action sees
  pub live_leaves : (h : History V) (a o : ℕ) → Lawful meaning opening h → is_live h a ≡ true
      → run meaning opening.contents (reverse (serial_order_to h a)) o ≡ sees meaning opening h a o
  live_leaves h a o l k = grind (arith, nat_tests, run_content, live_serial, sees_is, lawful_orderly)

  -- the serial order up to a live action begins with that of the committed topactions
  pub live_begins : (h : History V) (a : ℕ) → Lawful meaning opening h → is_live h a ≡ true
      → (more : List (Access V)) × (serial_order_to h a ≡ more ++ serial_order h)
  live_begins h a l k =
      let w = lawful_orderly meaning opening h l in
      let s = split_lineage h 0 a (parents_are_older h w) (stands_begun h a (live_stands h w a k).1)
      (base_above h a) in (
        all_of (work h) s.front,
        ap (all_of (work h)) s.is ∙ all_of-append (work h) s.front (lineage h 0)
            ∙ ap (λ es. all_of (work h) s.front ++ es) (serial_is h l),
      )

  base_now : (h : History V) (o : ℕ) → Lawful meaning opening h
      → content_after meaning opening.contents o (visible_accesses h 0) ≡ base meaning opening h o
  base_now h o l = sym (base_is meaning opening h (lawful_orderly meaning opening h l) o)

  -- the table of all effects is what is there for good
  pub table_is_base : (h : History V) (o : ℕ) → Lawful meaning opening h
      → table opening.contents (effects meaning opening h) o ≡ base meaning opening h o
  table_is_base h o l = table_base meaning opening h (lawful_steps meaning opening h l) o ∙ base_now h o l

  -- effects that make the opening's contents, and then those of the history, make what is there for good
  pub table_continues : (start : ℕ → C) (before : List (List (ℕ × C))) (h : History V) (o : ℕ)
      → ((x : ℕ) → table start before x ≡ opening.contents x) → Lawful meaning opening h
      → table start (before ++ effects meaning opening h) o ≡ base meaning opening h o
  table_continues start before h o same l =
      table_goes_on meaning opening start before same h (lawful_steps meaning opening h l) o ∙ base_now h o l

  -- the history's effects and then others make what those others make of what was there for good
  pub table_after : (h : History V) (later : List (List (ℕ × C))) (o : ℕ) → Lawful meaning opening h
      → table opening.contents (effects meaning opening h ++ later) o ≡ table (base meaning opening h) later o
  table_after h later o l = grind (arith, nat_tests, table-append, table_same, table_is_base)

  -- of two writers of an object the older is an ancestor of the other
  pub writers_in_line : (h : History V) (o x y : ℕ) → Lawful meaning opening h → contains (writers meaning h o) x ≡ true
      → contains (writers meaning h o) y ≡ true → x < y → is_ancestor h x y ≡ true
  writers_in_line h o x y l hx hy lt =
      let w = lawful_orderly meaning opening h l in let le = ancestor_le h y x (parents_are_older h w) in
      let one = one_above_the_other h o x y l hx in let more = joined (readers meaning h o) in
      grind (arith, nat_tests, begun_below h x, contains_filter, le, one, more)

  -- of a begun action an ancestor's ancestor is an ancestor
  pub ancestor_above : (h : History V) (x y a : ℕ) → Lawful meaning opening h → is_begun h a ≡ true
      → is_ancestor h x y ≡ true → is_ancestor h y a ≡ true → is_ancestor h x a ≡ true
  ancestor_above h x y a l k m n =
      ancestor_trans h x y a (parents_are_older h (lawful_orderly meaning opening h l)) (is_begun_parts h a k).1 m n

  -- an ancestor of a begun action has no greater number
  pub ancestor_older : (h : History V) (x a : ℕ) → Lawful meaning opening h → is_begun h a ≡ true
      → is_ancestor h x a ≡ true → x ≤ a
  ancestor_older h x a l k m =
      ancestor_le h x a (parents_are_older h (lawful_orderly meaning opening h l)) (is_begun_parts h a k).1 m

  -- an ancestor of a live action, other than the base, is live
  pub ancestor_live : (h : History V) (x a : ℕ) → Lawful meaning opening h → is_live h a ≡ true
      → is_ancestor h x a ≡ true → x ≢ 0 → is_live h x ≡ true
  ancestor_live h x a l k m n = grind (arith, nat_tests, lawful_orderly, stands_is_live, stands_upward, live_stands)

  -- where x has no live child, no live action is under x but x
  pub live_alone : (h : History V) (x a : ℕ) → Lawful meaning opening h → is_live h a ≡ true → is_ancestor h x a ≡ true
      → has_live_child h x ≡ false → x ≡ a
  live_alone h x a l k m n = let w = lawful_orderly meaning opening h l in
      alone h (parents_are_older h w) (stands_upward h w) x a (live_stands h w a k).1 m (child_is h w x ∙ n)
