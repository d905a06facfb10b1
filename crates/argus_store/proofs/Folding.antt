-- What the statements of a fold have done.
use Rattle.std.proofs.Common.{◌≡◌, ◌≢◌, ℕ, ℤ, pos, List, [], ◌∷◌, arith, map, Bool, true, false, not, ◌||◌, cond, None}
use Rattle.std.proofs.Common.{Some, Ok, Result, IsTrue, refl, sym, ap, subst, ◌∙◌, true≢false, slice_get}
use Rattle.std.proofs.{Common.IsPermutation, lemmas.List.Sorted.list_any-IsPermutation}
use Rattle.std.proofs.lemmas.{Cmp.{int_cmp_total, tied_itself}, Result.IfOk-weaker}
use Rattle.std.specs.List.{AllByRecursion, list_any}
use Rattle.sqlite.specs.{declared.types.Value.TheVariants.{Null, Int, Text}, Order.Row, Program.overlay, Query.IsAnswer}
use Rattle.sqlite.specs.{Query.{Output, output}, Command.{Command, TheVariants.Delete}, Table.Table}
use Rattle.sqlite.specs.{Rowids.TheVariants.{Chosen, Given}, Rows.Written, Does.{Tally, Does}, Effect.Database}
use Rattle.sqlite.specs.Edit.{edit_of, edited, id_in, without_all, Applies}
use Rattle.sqlite.specs.{Tree.{Trees, has_rowid, rowid, without_rowid}, Listing.understood, declared.error.Error.Error}
use Rattle.sqlite.specs.State.{State, HasCleanDisk, Survives, mode_of, Executes, ExecutesInside}
use Rattle.sqlite_schema.specs.declared.schema.Keys.TheVariants.{Enforced}
use Rattle.sqlite_rules.specs.Calls.{ids_of}
use Rattle.sqlite.proofs.Callers.{statement_of, runs_as, one_step}
use Rattle.sqlite_value.proofs.OrderLemmas.{value_cmp-Int}
use Rattle.sqlite_keyed.proofs.ListLemmas.{all_weaker}
use Rattle.argus_store.specs.Tables.{opening_table, batch_table, log_schema}
use Rattle.argus_store.specs.Journal.{Batch, Journal, OpeningLine, ending_at, first_of, line_row, number_of, one_row}
use Rattle.argus_store.specs.{Changing.{Puts, Ran, SeesRows}, declared.{change.Change.TheVariants.Fold, end.End.End}}
use Rattle.argus_store.proofs.Transaction.{ran_one, ran_then}
use Rattle.argus_store.proofs.{Changes.{inserts, went, same_value, cast_int, cast_null}, ReadBack.outputs}
use Rattle.argus_store.proofs.Statements.{Clears, clear_query, clear_batches_text, clear_batches_is}
use Rattle.argus_store.proofs.Statements.{clear_opening_text, clear_opening_is, open_text, open_terms, open_is}

-- ---- all rows of a table are taken out

-- the answer has a row's number
abbrev names : Row → Output → Bool
names row o = has_rowid (id_in (rowid o.1)) row

or_later : (b c : Bool) → IsTrue c → IsTrue (b || c)
or_later true c h = refl
or_later false c h = h

-- it has each row's
abbrev AreNamed : List Output → List Row → Type 0
AreNamed os = AllByRecursion (λ r. IsTrue (list_any (names r) os))

left : (o : Output) (os : List Output) (rows : List Row) → AreNamed (o ∷ os) rows
    → AreNamed os (without_rowid (id_in (rowid o.1)) rows)
left o os [] h = tt
left o os (r ∷ rs) h =
    let others = without_rowid (id_in (rowid o.1)) rs in
    let rest = left o os rs h.1 in
    (elim (names r o) as (λ t. IsTrue (t || list_any (names r) os) → AreNamed os (cond (not t) (r ∷ others) others)) [
      | true ↦ λ _. rest
      | false ↦ λ later. (later, rest)
    ]) h.0

all_gone : (os : List Output) (rows : List Row) → AreNamed os rows
    → without_all rows (ids_of (map (λ (o : Output). o.1) os)) ≡ []
all_gone [] [] h = refl
all_gone [] (r ∷ rs) h = absurd (true≢false (sym h.0))
all_gone (o ∷ os) rows h = all_gone os (without_rowid (id_in (rowid o.1)) rows) (left o os rows h)

module _ {X : Type 0} (number : X → ℤ) (rest : X → Row) where
  abbrev kept : X → Row
  kept x = Int (number x) ∷ rest x

  abbrev key : X → Output
  key x = ([], Int (number x) ∷ [])

  covered : (xs : List X) → AreNamed (map key xs) (map kept xs)
  covered [] = tt
  covered (x ∷ xs) = (
    rw (value_cmp-Int (number x) (number x), tied_itself int_cmp_total (number x)) refl,
    all_weaker _ _ (λ r later. or_later (names r (key x)) _ later) (map kept xs) (covered xs),
  )

  gone : (tree : ℕ) (all : Trees) (xs : List X) (given : List Row) → all tree ≡ map kept xs
      → IsAnswer (clear_query tree) all [] given → without_all (map kept xs) (ids_of given) ≡ []
  gone tree all xs given holds a =
      let query = clear_query tree in
      let keys : a.kept ≡ map key xs = a.distinct ∙ ap (map (output query)) a.grouped
      ∙ outputs kept tree query key (λ _. refl) all xs holds in
      let same = subst (λ k. IsPermutation k a.ordered) keys a.same in
      ap (λ rows. without_all (map kept xs) (ids_of rows)) a.shown ∙ all_gone a.ordered (map kept xs) (all_weaker _ _
      (λ r some. sym (list_any-IsPermutation (names r) (map key xs) a.ordered same) ∙ some) (map kept xs) (covered xs))

  clears : (text : List ℕ) (t : Table) (old new : State) (xs : List X) (count : ℕ) → Clears text t.tree
      → slice_get log_schema.tables t.tree ≡ Some t → ((db : Trees) → overlay db [] t.tree ≡ db t.tree)
      → old.now.schema ≡ log_schema → old.now.trees t.tree ≡ map kept xs → Executes text [] old new (Ok count)
      → (new.now.schema ≡ log_schema) × (new.now.trees t.tree ≡ [])
      × AllByRecursion (λ u. u.tree ≢ t.tree → new.now.trees u.tree ≡ old.now.trees u.tree) log_schema.tables
  clears text t old new xs count is there seen has holds h =
      let db = old.now.trees in
      let command : Command = Delete t.tree (record { lets = []; body = clear_query t.tree }) in
      let w = runs_as text [] old new log_schema has command is.0 is.1 count h in
      let done = went (rw there at (subst (λ s. Does old.step_limit (mode_of old) [] (record old.now { schema = s })
      (statement_of text (understood log_schema text)) None command (Ok (w.tally, new.now))) has w.changed)) in
      let last = same_value (went (went done.2).2).2 in
      let given = went done.1 in
      let written = went given.2 in
      let edit = edit_of db t (ids_of given.0) Given 0 [] in
      let all : new.now.trees ≡ written.0 = ap (λ (p : Tally × Database). p.1.trees) last
      ∙ ap (λ (it : Written). it.trees) (same_value written.2) in
      let it = subst (Applies log_schema Enforced db edit) (sym all) (one_step log_schema _ db written.0 edit refl
      written.1) in
      let none = gone t.tree (overlay db []) xs given.0 (seen db ∙ holds) (given.1.answer Null) in (
        ap (λ (p : Tally × Database). p.1.schema) last,
        it.rows ∙ ap (λ rows. without_all rows (ids_of given.0)) holds ∙ none,
        it.tables,
      )

pub no_batches : (old new : State) (count : ℕ) → Executes clear_batches_text [] old new (Ok count) → (j : Journal)
    → SeesRows old j → SeesRows new (record j { batches = [] })
no_batches old new count h j sees =
    let it = clears first_of (λ (b : Batch). Null ∷ Text b.lines ∷ Int b.sum ∷ []) clear_batches_text batch_table old
    new j.batches count clear_batches_is refl (λ _. refl) sees.0 sees.1.batches h in
    let others = it.2 in (
      it.0,
      record {
        log = others.0 (λ e. omega (arith, e)) ∙ sees.1.log;
        opening = others.1.0 (λ e. omega (arith, e)) ∙ sees.1.opening;
        batches = it.1;
        objects = others.1.1.1.0 (λ e. omega (arith, e)) ∙ sees.1.objects;
      },
    )

pub no_opening : (old new : State) (count : ℕ) → Executes clear_opening_text [] old new (Ok count) → (j : Journal)
    → SeesRows old j → SeesRows new (record j { opening = [] })
no_opening old new count h j sees =
    let it = clears number_of (λ (l : OpeningLine). Null ∷ Text l.text ∷ []) clear_opening_text opening_table old new
    j.opening count clear_opening_is refl (λ _. refl) sees.0 sees.1.opening h in
    let others = it.2 in (
      it.0,
      record {
        log = others.0 (λ e. omega (arith, e)) ∙ sees.1.log;
        opening = it.1;
        batches = others.1.1.0 (λ e. omega (arith, e)) ∙ sees.1.batches;
        objects = others.1.1.1.0 (λ e. omega (arith, e)) ∙ sees.1.objects;
      },
    )

-- ---- an opening is put in

pub opens : (old new : State) (text : List ℕ) (count : ℕ) → Executes open_text (Text text ∷ []) old new (Ok count)
    → (j : Journal) → SeesRows old j → j.opening ≡ [] → SeesRows new (record j { opening = one_row text })
opens old new text count h j sees none =
    let db = old.now.trees in
    let it = inserts open_text (Text text ∷ []) opening_table open_terms 3 old new count open_is refl refl sees.0 h in
    let others = it.applies.tables in
    let empty : db 1 ≡ [] = sees.1.opening ∙ ap (map line_row) none in
    let edit : edited db (edit_of db opening_table [] Chosen 0 it.all) ≡ map line_row (one_row text) =
    ap (λ all. edited db (edit_of db opening_table [] Chosen 0 all)) it.is
    ∙ rw (cast_int (pos 0), cast_null, empty) refl in (
      it.schema,
      record {
        log = others.0 (λ e. omega (arith, e)) ∙ sees.1.log;
        opening = it.applies.rows ∙ edit;
        batches = others.1.1.0 (λ e. omega (arith, e)) ∙ sees.1.batches;
        objects = others.1.1.1.0 (λ e. omega (arith, e)) ∙ sees.1.objects;
      },
    )

-- ---- all three

abbrev Turns : State → State → (Journal → Journal) → Type 0
Turns old new f = (j : Journal) → SeesRows old j → SeesRows new (f j)

pub cleared : (a b : State) (m : ℕ)
    → (HasCleanDisk b → IsTrue a.in_transaction → ExecutesInside 0 clear_batches_text [] a b (Ok m))
    → Survives a b (λ _. ⊥) → Ran a b (Ok m) (λ _. Turns a b (λ j. record j { batches = [] }))
cleared a b m runs survives = ran_one clear_batches_text [] a b (Ok m) (λ _. Turns a b (λ j. record j { batches = [] }))
    runs survives (no_batches a b)

pub replaces : (a b c d : State) (text : List ℕ) (m n : ℕ) (r : Result ℕ Error)
    → Ran a b (Ok m) (λ _. Turns a b (λ j. record j { batches = [] }))
    → (HasCleanDisk c → IsTrue b.in_transaction → ExecutesInside 0 clear_opening_text [] b c (Ok n))
    → Survives b c (λ _. ⊥)
    → (HasCleanDisk d → IsTrue c.in_transaction → ExecutesInside 0 open_text (Text text ∷ []) c d r)
    → Survives c d (λ _. ⊥) → Ran a d r (λ _. (e after : End) → Puts Fold a d e text after)
replaces a b c d text m n r one second kept third still =
    let two = ran_one clear_opening_text [] b c (Ok n) (λ _. Turns b c (λ j. record j { opening = [] })) second kept
    (no_opening b c) in
    let both = ran_then a b c m (Ok n) (Ok n) _ _ (λ _. Turns a c (λ j. record j { batches = []; opening = [] })) one
    two (λ first on. (on.0, λ j sees. on.1 (record j { batches = [] }) (first j sees))) in
    let three = ran_one open_text (Text text ∷ []) c d r
    (λ _. (j : Journal) → SeesRows c j → j.opening ≡ [] → SeesRows d (record j { opening = one_row text })) third
    still (opens c d text) in
    ran_then a c d n r r _ _ _ both three (λ first. IfOk-weaker r _ _ (λ _ on. (
      on.0,
      λ e after j sees _.
          let moved = ending_at j (pos after.next) (pos after.sum) in
          on.1 (record moved { batches = []; opening = [] }) (first moved sees) refl,
    )))
