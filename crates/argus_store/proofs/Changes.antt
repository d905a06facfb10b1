-- What a statement that changed rows of a log has done.
use Rattle.std.proofs.Common.{◌≡◌, ◌⊎◌, inl, inr, ℕ, ◌/◌, ℤ, pos, List, [], ◌∷◌, ◌++◌, arith, map, length, slice_get}
use Rattle.std.proofs.Common.{Bool, true, false, ◌&&◌, cond, if◌then◌else◌, MatchBool, Some, None, Ok, Err, Result, refl}
use Rattle.std.proofs.Common.{sym, ap, ap₂, subst, ◌∙◌, Ordering, Less, Equal, Greater, is_eq, int_cmp, true≢false}
use Rattle.std.proofs.Common.{unwrap_or, IsPermutation}
use Rattle.std.proofs.{lemmas.List.Sorted.length_permutation, lemmas.Map.Lookups.exact_bytes}
use Rattle.std.proofs.lemmas.Cmp.{int_ranked, tied_itself, int_cmp_total, nat_list_cmp_total}
use Rattle.std.specs.{Cmp.Lexicographic.slice_cmp, Ordering.nat_cmp}
use Rattle.sqlite.specs.{declared.types.Value.Value, declared.types.Value.TheVariants.{Null, Int, Text}, Order.Row}
use Rattle.sqlite.specs.{Collation.TheVariants.Binary, Ops.{unary, binary, is_true, from_truth}, Program.overlay}
use Rattle.sqlite.specs.{Kind.TheVariants.Integer, Source.TheVariants.Values, Term.Term, Table.Table}
use Rattle.sqlite.specs.{Command.{Command, TheVariants.{Insert, Update}}, Effect.{Database, value_rows}}
use Rattle.sqlite.specs.{Query.{inner, end, IsAnswer, output, Output, matches_as, page}, Cast.cast, Does.{Tally, Does}}
use Rattle.sqlite.specs.{Edit.{edit_of, edited, Applies}, Rowids.TheVariants.{Chosen, Given}}
use Rattle.sqlite.specs.Rows.{Written, count_of, rowids_for, stamped}
use Rattle.sqlite.specs.{Tree.{Trees, put_row}, State.{State, mode_of, Executes}, Listing.understood}
use Rattle.sqlite_sql.specs.{declared.ops.BinaryOp.TheVariants.Compare, declared.ops.CompareOp.TheVariants.Eq}
use Rattle.sqlite_schema.specs.declared.schema.Keys.TheVariants.{Enforced}
use Rattle.sqlite_rules.specs.{Calls.ids_of, Action.Writes}
use Rattle.sqlite.proofs.Callers.{statement_of, runs_as, one_step, one_permutation}
use Rattle.sqlite_value.proofs.OrderLemmas.{value_cmp-Int, value_cmp-Text}
use Rattle.argus_store.specs.{Tables.{log_table, batch_table, log_schema}, declared.end.End.End, Changing.Moves}
use Rattle.argus_store.specs.Journal.{Batch, Journal, ending_at, batch_row, shown_batch, log_row, HoldsRows, AreBelow}
use Rattle.argus_store.proofs.Statements.{Means, move_text, move_query, move_program, move_is}
use Rattle.argus_store.proofs.Statements.{put_text, put_terms, put_is}

either : (b : Bool) (x : Value) → cond b x x ≡ x
either true x = refl
either false x = refl

pub cast_int : (n : ℤ) → cast Integer (Int n) ≡ Int n
unfolding unary
cast_int n = either _ (Int n)

pub cast_null : cast Integer Null ≡ Null
unfolding unary
cast_null = either _ Null

-- a part that gave a value did not stop on the way
pub went : {B E R : Type 0} {b : B} {Stops : E → Type 0} → ((stop : E) × Stops stop × (Ok b ≡ Err stop)) ⊎ R → R
went (inl stopped) = absurd (let e = stopped.2 in cc)
went (inr on) = on

pub same_value : {B E : Type 0} {a b : B} → ◌≡◌ {A = Result B E} (Ok a) (Ok b) → a ≡ b
same_value e = cc

-- ---- rows are put into a table

-- the values' rows were put in, and nothing else was done
pub record Inserted (t : Table) (params : Row) (terms : List Term) (width : ℕ) (old new : State) : Type 0 where
  pub all : List Row
  pub is : all ≡ value_rows (stamped t params) width (length terms / width) terms
  pub schema : new.now.schema ≡ log_schema
  pub applies : Applies log_schema Enforced old.now.trees (edit_of old.now.trees t [] Chosen 0 all) new.now.trees

-- a table without AUTOINCREMENT
chosen : (t : Table) (top : ℤ) → t.is_counted ≡ false → rowids_for t top ≡ Chosen
chosen t top alone = rw alone

uncounted : (c above : Bool) (A B : Type 0) → c ≡ false → MatchBool (if c then above else false) A B → B
uncounted true above A B alone h = absurd (true≢false alone)
uncounted false above A B alone h = h

pub inserts : (text : List ℕ) (params : Row) (t : Table) (terms : List Term) (width : ℕ) (old new : State) (count : ℕ)
    → Means text (Insert t.tree (Values terms width)) → slice_get log_schema.tables t.tree ≡ Some t
    → t.is_counted ≡ false → old.now.schema ≡ log_schema → Executes text params old new (Ok count)
    → Inserted t params terms width old new
inserts text params t terms width old new count is there alone has h =
    let db = old.now.trees in
    let command : Command = Insert t.tree (Values terms width) in
    let w = runs_as text params old new log_schema has command is.0 is.1 count h in
    let done = went (rw there at (subst (λ s. Does old.step_limit (mode_of old) params (record old.now { schema = s })
    (statement_of text (understood log_schema text)) None command (Ok (w.tally, new.now))) has w.changed)) in
    let now = ap (λ (p : Tally × Database). p.1) (same_value (went (went done.2).2).2) in
    let given = went done.1 in
    let counter = went given.2 in
    let written = went counter.2 in
    let counted = went written.2 in
    let edit = edit_of db t [] Chosen 0 given.0 in
    let trees : new.now.trees ≡ written.0 = ap (λ (d : Database). d.trees) now
    ∙ ap (λ (it : Written). it.trees) (same_value counted.2)
    ∙ same_value (uncounted t.is_counted _ _ _ alone counted.1) in
    record {
      all = given.0;
      is = given.1.1;
      schema = ap (λ (d : Database). d.schema) now;
      applies = subst (Applies log_schema Enforced db edit) (sym trees) (one_step log_schema _ db written.0 edit refl
          (subst (λ r. Writes log_schema Enforced db (edit_of db t [] r 0 given.0) (Ok written.0))
          (chosen t (count_of counter.0) alone) written.1));
    }

-- ---- a batch is put in

put_last : (bs : List Batch) (b : Batch) → AreBelow b.first bs → put_row (batch_row b) (map batch_row bs)
    ≡ map batch_row (bs ++ b ∷ [])
put_last [] b h = refl
put_last (c ∷ bs) b h = rw (value_cmp-Int c.first b.first ∙ h.0) (ap (λ xs. batch_row c ∷ xs) (put_last bs b h.1))

-- the rows after a step on the batches
put_rows : (db after : Trees) (j : Journal) (b : Batch) (all : List Row) → all
    ≡ (Int b.first ∷ Null ∷ Text b.lines ∷ Int b.sum ∷ []) ∷ []
    → HoldsRows db j → AreBelow b.first j.batches → Applies log_schema Enforced db
    (edit_of db batch_table [] Chosen 0 all) after
    → HoldsRows after (record j { batches = j.batches ++ b ∷ [] })
put_rows db after j b all given rows below it =
    let others = it.tables in
    let edit : edited db (edit_of db batch_table [] Chosen 0 all) ≡ map batch_row (j.batches ++ b ∷ []) =
    ap (λ all. edited db (edit_of db batch_table [] Chosen 0 all)) given
    ∙ rw (cast_int b.first, cast_null, cast_int b.sum, rows.batches) (put_last j.batches b below) in
    record {
      log = others.0 (λ e. omega (arith, e)) ∙ rows.log;
      opening = others.1.0 (λ e. omega (arith, e)) ∙ rows.opening;
      batches = it.rows ∙ edit;
      objects = others.1.1.1.0 (λ e. omega (arith, e)) ∙ rows.objects;
    }

pub puts : (old new : State) (j : Journal) (b : Batch) (count : ℕ) → old.now.schema ≡ log_schema
    → HoldsRows old.now.trees j → AreBelow b.first j.batches
    → Executes put_text (shown_batch b) old new (Ok count)
    → (new.now.schema ≡ log_schema) × HoldsRows new.now.trees (record j { batches = j.batches ++ b ∷ [] })
puts old new j b count has rows below h =
    let it = inserts put_text (shown_batch b) batch_table put_terms 4 old new count put_is refl refl has h in
    (it.schema, put_rows old.now.trees new.now.trees j b it.all it.is rows below it.applies)

-- ---- the log's end is moved

read_truth : (b : Bool) → is_true (from_truth (Some b)) ≡ b
read_truth true = refl
read_truth false = refl

-- WHERE keeps the row whose next entry is this one
equal_test : (m n : ℤ) → is_true (binary (Compare Eq Binary) (Int m) (Int n)) ≡ is_eq (int_cmp m n)
unfolding binary
equal_test m n = rw (value_cmp-Int m n) (read_truth (is_eq (int_cmp m n)))

same_text_test : (xs ys : List ℕ) → is_true (binary (Compare Eq Binary) (Text xs) (Text ys))
    ≡ is_eq (slice_cmp nat_cmp xs ys)
unfolding binary
same_text_test xs ys = rw (value_cmp-Text xs ys) (read_truth (is_eq (slice_cmp nat_cmp xs ys)))

-- what a statement takes for the log's end: its name, the next entry and the last sum
pub record Place : Type 0 where
  pub name : List ℕ
  pub next : ℤ
  pub sum : ℤ

abbrev pub place_of : Journal → Place
place_of j = record { name = j.name; next = j.next; sum = j.sum }

abbrev place_at : List ℕ → End → Place
place_at name e = record { name = name; next = pos e.next; sum = pos e.sum }

-- the row of `log` as the UPDATE gives it, behind its old key
abbrev moved_row : Journal → Batch → ℤ → Row
moved_row j b next = Int (pos 0) ∷ Int (pos 0) ∷ Null ∷ Text j.name ∷ Text j.version ∷ Int j.epoch ∷ Int j.is_open ∷
    Int next ∷ Int b.sum ∷ []

abbrev moved_output : Journal → Batch → ℤ → Output
moved_output j b next = ([], moved_row j b next)

-- the three tests
abbrev fits : Journal → Place → Bool
fits j e = is_eq (int_cmp j.next e.next)
    && (is_eq (int_cmp j.sum e.sum) && is_eq (slice_cmp nat_cmp j.name e.name))

abbrev given_row : Place → Batch → ℤ → Row
given_row e b next = Int next ∷ Int b.sum ∷ Int e.next ∷ Int e.sum ∷ Text e.name ∷ []

abbrev before : Journal → Place → Batch → ℤ → List Row
before j e b next = given_row e b next ∷ log_row j ∷ []

outputs : (all : Trees) (j : Journal) (e : Place) (b : Batch) (next : ℤ) → all 0 ≡ log_row j ∷ []
    → map (output move_query) (matches_as Null all move_query.filter (inner 0 end) (given_row e b next ∷ []))
    ≡ cond (fits j e) (moved_output j b next ∷ []) []
outputs all j e b next log =
    rw (log, equal_test j.next e.next, equal_test j.sum e.sum, same_text_test j.name e.name)
    (each (is_eq (int_cmp j.next e.next)) (is_eq (int_cmp j.sum e.sum)) (is_eq (slice_cmp nat_cmp j.name e.name)))
  where
    each : (s t u : Bool) → map (output move_query)
        (cond (s && (t && (u && true))) (before j e b next ∷ []) [] ++ [])
        ≡ cond (s && (t && u)) (moved_output j b next ∷ []) []
    each true true true = refl
    each true true false = refl
    each true false u = refl
    each false t u = refl

pub one_or_none : (t : Bool) (o : Output) (kept ordered : List Output) → kept ≡ cond t (o ∷ []) []
    → IsPermutation kept ordered → ordered ≡ cond t (o ∷ []) []
one_or_none true o kept ordered is same = one_permutation o ordered (subst (λ k. IsPermutation k ordered) is same)
one_or_none false o kept [] is same = refl
one_or_none false o kept (x ∷ more) is same = absurd (omega (
  arith,
  length_permutation kept (x ∷ more) same,
  ap length
      is,
))

abbrev paged : Place → Batch → ℤ → List Output → List Row
paged e b next os = page move_query (given_row e b next) (map (λ (p : Output). p.1) os)

found : (all : Trees) (j : Journal) (e : Place) (b : Batch) (next : ℤ) (given : List Row) → all 0 ≡ log_row j ∷ []
    → IsAnswer move_query all (given_row e b next) given
    → given ≡ cond (fits j e) (moved_row j b next ∷ []) []
found all j e b next given log a =
    let kept = a.distinct ∙ ap (map (output move_query)) a.grouped ∙ outputs all j e b next log in
    let ordered = one_or_none (fits j e) (moved_output j b next) a.kept a.ordered kept a.same in
    a.shown ∙ ap (paged e b next) ordered
    ∙ elim (fits j e) as (λ t. paged e b next (cond t (moved_output j b next ∷ []) [])
    ≡ cond t (moved_row j b next ∷ []) []) [ true ↦ refl | false ↦ refl ]

-- the rows after a step on `log`
move_rows : (db after : Trees) (j : Journal) (b : Batch) (next : ℤ) (all : List Row) → all ≡ moved_row j b next ∷ []
    → HoldsRows db j → Applies log_schema Enforced db (edit_of db log_table (ids_of all) Given 1 all) after
    → HoldsRows after (ending_at j next b.sum)
move_rows db after j b next all given rows it =
    let others = it.tables in
    let edit : edited db (edit_of db log_table (ids_of all) Given 1 all) ≡ log_row (ending_at j next b.sum) ∷ [] =
    ap (λ all. edited db (edit_of db log_table (ids_of all) Given 1 all)) given
    ∙ rw (
      cast_int (pos 0),
      cast_null,
      cast_int j.epoch,
      cast_int j.is_open,
      cast_int next,
      cast_int b.sum,
      rows.log,
      value_cmp-Int (pos 0) (pos 0),
    ) refl in
    record {
      log = it.rows ∙ edit;
      opening = others.1.0 (λ e. omega (arith, e)) ∙ rows.opening;
      batches = others.1.1.0 (λ e. omega (arith, e)) ∙ rows.batches;
      objects = others.1.1.1.0 (λ e. omega (arith, e)) ∙ rows.objects;
    }

equal_only : (o : Ordering) → is_eq o ≡ true → o ≡ Equal
equal_only Less h = absurd (true≢false (sym h))
equal_only Equal h = refl
equal_only Greater h = absurd (true≢false (sym h))

same_number : (m n : ℤ) → is_eq (int_cmp m n) ≡ true → n ≡ m
same_number m n h = sym (int_ranked m n Equal (sym (equal_only (int_cmp m n) h)))

same_text : (xs ys : List ℕ) → is_eq (slice_cmp nat_cmp xs ys) ≡ true → ys ≡ xs
same_text xs ys h = sym (exact_bytes xs ys (equal_only (slice_cmp nat_cmp xs ys) h))

both_true : (s t : Bool) → s && t ≡ true → (s ≡ true) × (t ≡ true)
both_true true true h = (refl, refl)
both_true true false h = absurd (true≢false (sym h))
both_true false t h = absurd (true≢false (sym h))

same_place : (j : Journal) (e : Place) → fits j e ≡ true → e ≡ place_of j
same_place j e h =
    let one = both_true _ _ h in
    let two = both_true _ _ one.1 in
    ap (λ name. record e { name = name }) (same_text j.name e.name two.1)
    ∙ ap₂ (λ next sum. record { name = j.name; next = next; sum = sum }) (same_number j.next e.next one.0)
    (same_number j.sum e.sum two.0)

fits_itself : (j : Journal) → fits j (place_of j) ≡ true
fits_itself j = rw (
  tied_itself int_cmp_total j.next,
  tied_itself int_cmp_total j.sum,
  tied_itself nat_list_cmp_total j.name,
) refl

-- what the UPDATE did, whatever it counted
record Step (old new : State) (j : Journal) (e : Place) (b : Batch) (next : ℤ) (count : ℕ) : Type 0 where
  given : List Row
  is : given ≡ cond (fits j e) (moved_row j b next ∷ []) []
  one : count ≡ length (edit_of old.now.trees log_table (ids_of given) Given 1 given).news
  schema : new.now.schema ≡ log_schema
  applies : Applies log_schema Enforced old.now.trees (edit_of old.now.trees log_table (ids_of given) Given 1 given)
      new.now.trees

steps : (old new : State) (j : Journal) (e : Place) (b : Batch) (next : ℤ) (count : ℕ) → old.now.schema ≡ log_schema
    → HoldsRows old.now.trees j
    → Executes move_text (given_row e b next) old new (Ok count) → Step old new j e b next count
steps old new j e b next count has rows h =
    let db = old.now.trees in
    let params = given_row e b next in
    let text = statement_of move_text (understood log_schema move_text) in
    let w = runs_as move_text params old new log_schema has (Update 0 move_program) move_is.0 move_is.1 count h in
    let done = went (subst (λ s. Does old.step_limit (mode_of old) params (record old.now { schema = s }) text None
    (Update 0 move_program) (Ok (w.tally, new.now))) has w.changed) in
    let last = same_value (went (went done.2).2).2 in
    let given = went done.1 in
    let written = went given.2 in
    let whole = same_value written.2 in
    let edit = edit_of db log_table (ids_of given.0) Given 1 given.0 in
    let all : new.now.trees ≡ written.0 = ap (λ (p : Tally × Database). p.1.trees) last
    ∙ ap (λ (it : Written). it.trees) whole in
    let applied = one_step log_schema _ db written.0 edit refl written.1 in
    let counted : w.tally.rows ≡ Some (length edit.news) = ap (λ (p : Tally × Database). p.0.rows) last
    ∙ ap (λ (it : Written). Some (length it.rows)) whole in
    record {
      given = given.0;
      is = found (overlay db []) j e b next given.0 rows.log (given.1.answer Null);
      one = w.counted ∙ ap (λ o. unwrap_or o 0) counted;
      schema = ap (λ (p : Tally × Database). p.1.schema) last;
      applies = subst (Applies log_schema Enforced db edit) (sym all) applied;
    }

-- the row that was changed fits
decided : (t : Bool) (old new : State) (j : Journal) (e : Place) (b : Batch) (next : ℤ) (it : Step old new j e b next 1) → fits j e
    ≡ t → it.given ≡ cond t (moved_row j b next ∷ []) []
    → HoldsRows old.now.trees j → (e ≡ place_of j) × HoldsRows new.now.trees (ending_at j next b.sum)
decided true old new j e b next it fit is rows = (
  same_place j e fit,
  move_rows old.now.trees new.now.trees j b
      next it.given is rows it.applies,
)
decided false old new j e b next it fit is rows =
    let none : length (edit_of old.now.trees log_table (ids_of it.given) Given 1 it.given).news
    ≡ 0 = ap (λ all. length (edit_of old.now.trees log_table (ids_of all) Given 1 all).news) is in
    absurd (omega (arith, it.one, none))

moves : (old new : State) (j : Journal) (e : Place) (b : Batch) (next : ℤ) → old.now.schema ≡ log_schema
    → HoldsRows old.now.trees j
    → Executes move_text (given_row e b next) old new (Ok 1)
    → (e ≡ place_of j) × (new.now.schema ≡ log_schema) × HoldsRows new.now.trees (ending_at j next b.sum)
moves old new j e b next has rows h =
    let it = steps old new j e b next 1 has rows h in
    let both = decided (fits j e) old new j e b next it refl it.is rows in
    (both.0, it.schema, both.1)

-- the row that fits is changed
counts : (old new : State) (j : Journal) (e : Place) (b : Batch) (next : ℤ) (count : ℕ) → old.now.schema ≡ log_schema
    → HoldsRows old.now.trees j
    → Executes move_text (given_row e b next) old new (Ok count) → e ≡ place_of j → count ≡ 1
counts old new j e b next count has rows h at =
    let it = steps old new j e b next count has rows h in
    let fit : fits j e ≡ true = ap (fits j) at ∙ fits_itself j in
    let is : it.given ≡ moved_row j b next ∷ [] = it.is ∙ ap (λ t. cond t (moved_row j b next ∷ []) []) fit in
    it.one ∙ ap (λ all. length (edit_of old.now.trees log_table (ids_of all) Given 1 all).news) is

-- with the row that `move_end` gives it
abbrev pub end_row : List ℕ → End → End → Row
end_row name e a = Int (pos a.next) ∷ Int (pos a.sum) ∷ Int (pos e.next) ∷ Int (pos e.sum) ∷ Text name ∷ []

pub moves_end : (old new : State) (name : List ℕ) (e a : End) (count : ℕ)
    → Executes move_text (end_row name e a) old new (Ok count) → Moves old new name e a count
moves_end old new name e a count h j sees =
    let b : Batch = record { first = pos 0; lines = []; sum = pos a.sum } in (
      λ one.
          let it = moves old new j (place_at name e) b (pos a.next) sees.0 sees.1 (rw one at h) in (
            record {
              name_is = sym (ap (λ (p : Place). p.name) it.0);
              next_is = sym (ap (λ (p : Place). p.next) it.0);
              sum_is = sym (ap (λ (p : Place). p.sum) it.0);
            },
            (it.1, it.2),
          ),
      λ at.
          let same : place_at name e ≡ place_of j = ap (λ name. place_at name e) (sym at.name_is)
          ∙ ap₂ (λ next sum. record { name = j.name; next = next; sum = sum }) (sym at.next_is) (sym at.sum_is) in
          counts old new j (place_at name e) b (pos a.next) count sees.0 sees.1 h same,
    )
