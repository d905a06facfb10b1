-- A declaration: one more object, which nobody holds.
use Rattle.std.proofs.Common.{List, None, Option, [], ap, arith, false, inl, inr, length, refl, subst, suc, sym, true}
use Rattle.std.proofs.{Common.{zero, ℕ, ◌+◌, ◌<◌, ◌≤◌, ◌++◌, ◌∙◌, ◌∷◌, ◌≡◌}, Math.Seq.get_or-append_seam}
use Rattle.std.proofs.lemmas.{Bool.{cases_Bool, cases_lt, or_parts, Decides.nat_tests}, List.get_or_append_left}
use Rattle.std.proofs.lemmas.{List.{length-append, length-map, map-append}, Option.slice_get_past}
use Rattle.std.specs.Prelude.{slice_index_or}
use Rattle.argus_actions.specs.{Tree.Tree, declared.action_id.ActionId.ActionId}
use Rattle.argus_contents.specs.{Content.PlainContent, Shape.PlainShape, declared.limits.TheConstants.MAX_OBJECTS}
use Rattle.argus_entries.specs.{Call.declare, Entry.PlainEntry, Reply.{object, refused}}
use Rattle.argus_entries.specs.declared.refusal.Refusal.TheVariants.{TooMany}
use Rattle.argus_core.specs.StateRefinement.{StateRefinesJournal, holds}
use Rattle.argus_core.specs.declared.engine.atomic_object.AtomicObject.{AtomicObject}
use Rattle.argus_journal.specs.{JournalView.entry_with, Answers.answer, Entries.entries, Events.history}
use Rattle.argus_journal.specs.{Objects.{declared, shapes}, Opening.{Opening, fits_shape, model_opening}}
use Rattle.argus_journal.proofs.{Contents.content_fits, Fitting.nothing, NextEntry.readers_above}
use Rattle.argus_refinement.{specs.CellRefinement.IsCell, proofs.CellHolders.cell_same}
use Rattle.argus_model.specs.{Contents.base, Holders.{readers, writers}, Numbers.contains, Owner.{is_base, owner}}
use Rattle.argus_model.proofs.Numbers.{contains_first}
use Rattle.argus_objects.specs.{Object.Object, declared.holdings.Holdings.Holdings}

-- a list without members is empty
none_listed : (xs : List ℕ) → ((x : ℕ) → contains xs x ≡ false) → xs ≡ []
none_listed [] f = refl
none_listed (y ∷ ys) f = nothing (sym (f y) ∙ contains_first y ys)

-- no content fits where no shape is
absent : (n : ℕ) (c : Option PlainContent) → fits_shape None n c ≡ true → c ≡ None
absent n c e = grind (arith, nat_tests)

module _ (t : Tree) (objects : List AtomicObject) (holdings : Holdings) (s : Opening) (j : List PlainEntry)
    (k : StateRefinesJournal t objects holdings s j) where
  count : length (shapes s j) ≡ length objects
  count = ap (λ xs. length xs) (sym k.shapes) ∙ length-map objects (λ (x : AtomicObject). x.shape)

  -- nobody holds an object that isn't declared
  nobody : (n : ℕ) → holds (history s j) (n + 1) (length objects) ≡ false
  nobody n =
      let x : ActionId = record { 0 = n } in
      elim (cases_Bool (holds (history s j) (n + 1) (length objects))) [
        | inl e ↦
            let lt = k.state.there x (length objects) (k.state.held x (length objects) ∙ e) in
            absurd (omega arith)
        | inr e ↦ e
      ]

  no_reader : readers entries (history s j) (length objects) ≡ []
  no_reader = none_listed (readers entries (history s j) (length objects)) each
    where
      each : (x : ℕ) → contains (readers entries (history s j) (length objects)) x ≡ false
      each zero = readers_above (history s j) (length objects)
      each (suc n) =
          let e : n + 1 ≡ suc n = omega arith in
          subst (λ x. contains (readers entries (history s j) (length objects)) x ≡ false) e
          (or_parts (contains (readers entries (history s j) (length objects)) (n + 1))
          (contains (writers entries (history s j) (length objects)) (n + 1)) (nobody n)).0

  no_base : base entries (model_opening s) (history s j) (length objects) ≡ None
  no_base =
      let o = length objects in
      let n = declared s j in
      let low : length (shapes s j) ≤ o = omega (arith, count) in
      absent n (base entries (model_opening s) (history s j) o)
      (subst (λ q. fits_shape q n (base entries (model_opening s) (history s j) o) ≡ true) (slice_get_past
      (shapes s j) o low)
      (content_fits (λ b. is_base (owner (history s j) b)) s j o k.sound k.legal))

  -- an object with neither content nor holder
  abbrev fresh : Object
  fresh = record { base = None; readers = []; versions = []; reader_room = 0; version_room = 0 }

  fresh_cell : (c : Object) → c.base ≡ None → c.readers ≡ [] → c.versions ≡ []
      → IsCell s (history s j) t (length objects) c
  fresh_cell c b r v = grind (arith, nat_tests, cell_same, no_base, no_reader, nobody)

  pub declare_refused : (shape : PlainShape) → MAX_OBJECTS ≤ length objects
      → answer s j (declare shape) ≡ refused TooMany
  declare_refused shape full = grind (arith, nat_tests, count)

  module _ (shape : PlainShape) (low : length objects < MAX_OBJECTS) where
    pub declared_right : object (length objects) ≡ answer s j (declare shape)
    declared_right = grind (arith, nat_tests, count)

    one_more : (x : AtomicObject) → x.shape ≡ shape → x.cell.base ≡ None → x.cell.readers ≡ []
        → x.cell.versions ≡ []
        → StateRefinesJournal t (objects ++ x ∷ []) holdings s (entry_with (declare shape) (object (length objects))
        ∷ j)
    one_more x is b r v = record {
      legal = (declared_right, k.legal);
      sound = k.sound;
      limits = k.limits;
      few = let e = length-append objects (x ∷ []) in omega arith;
      shapes =
          map-append (λ (y : AtomicObject). y.shape) objects (x ∷ [])
          ∙ ap (λ ys. ys ++ x.shape ∷ []) k.shapes ∙ ap (λ y. shapes s j ++ y ∷ []) is;
      state = record {
        actions = k.state.actions;
        each = each;
        held = k.state.held;
        there = λ a o i. let e = length-append objects (x ∷ []) in let lt = k.state.there a o i in omega arith;
      };
    }
      where
        each : (o : ℕ) (d : AtomicObject) → o < length (objects ++ x ∷ [])
            → IsCell s (history s j) t o (slice_index_or (objects ++ x ∷ []) o d).cell
        each o d lt =
            elim (cases_lt o (length objects)) [
              | inl less ↦
                  subst (λ (y : AtomicObject). IsCell s (history s j) t o y.cell)
                  (sym (get_or_append_left objects (x ∷ []) d o less)) (k.state.each o d less)
              | inr ge ↦
                  let e = length-append objects (x ∷ []) in
                  let last : length objects ≡ o = omega arith in
                  subst (λ n. IsCell s (history s j) t n (slice_index_or (objects ++ x ∷ []) n d).cell) last
                  (subst (λ (y : AtomicObject). IsCell s (history s j) t (length objects) y.cell)
                  (sym (get_or-append_seam objects x [] d)) (fresh_cell x.cell b r v))
            ]

    pub kept_declared : (n : ℕ) → n ≡ length objects → (x : AtomicObject) → x.shape ≡ shape → x.cell.base ≡ None
        → x.cell.readers ≡ [] → x.cell.versions ≡ []
        → StateRefinesJournal t (objects ++ x ∷ []) holdings s (entry_with (declare shape) (object n) ∷ j)
    kept_declared n number x is b r v = grind (arith, nat_tests, one_more x is b r v)
