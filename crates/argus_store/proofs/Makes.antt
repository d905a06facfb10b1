-- What the statements that make a log have done.
use Rattle.std.proofs.Common.{◌≡◌, ℕ, ℤ, pos, List, [], ◌∷◌, ◌++◌, codes, false, None, Ok, refl, sym, ap, subst}
use Rattle.std.proofs.Common.{◌∙◌, arith}
use Rattle.sqlite.specs.{declared.types.Value.TheVariants.{Null, Int}, Order.Row, Table.Table, Schema.Schema}
use Rattle.sqlite.specs.{Term.{Term, lit, col}, Source.TheVariants.Values, Command.TheVariants.{CreateTable, Insert}}
use Rattle.sqlite.specs.{Compile.table_defined_by, Change.{created, next_tree, KeepsRows}, Rowids.TheVariants.Chosen}
use Rattle.sqlite.specs.{Edit.{edit_of, edited, Applies}, Does.{Tally, lacks_sequence}, Tree.Trees}
use Rattle.sqlite.specs.{Effect.Database, Listing.understood, State.{State, Writes, Executes}}
use Rattle.sqlite_schema.specs.declared.schema.Keys.TheVariants.{Enforced}
use Rattle.sqlite_tied.specs.Compute.{everything}
use Rattle.sqlite.proofs.Callers.{IsPlain, command_of, statement_of, runs_as}
use Rattle.argus_store.specs.Tables.{no_schema, log_table, opening_table, batch_table, object_table, log_schema}
use Rattle.argus_store.specs.Journal.{new_journal, log_row, HoldsRows, HoldsLog}
use Rattle.argus_store.specs.Making.{begin_row, begin_text}
use Rattle.argus_store.proofs.{Changes.{inserts, went, same_value, cast_int, cast_null}, Statements.Means}

-- a table's definition, which has no place yet
abbrev defined : Table → Table
defined t = record t { tree = 0 }

abbrev IsDefinedBy : Schema → List ℕ → Table → Type 0
IsDefinedBy schema text made =
    (command_of (understood schema text) ≡ CreateTable) × (statement_of text (understood schema text) ≡ text)
    × (table_defined_by text ≡ Ok made) × IsPlain (understood schema text)

-- a CREATE makes its table, with no row, and leaves those of the others
abbrev Makes : Schema → Table → State → State → Type 0
Makes schema made old new = (new.now.schema ≡ created schema made) × (new.now.trees (next_tree schema) ≡ [])
    × KeepsRows schema.tables old.now.trees new.now.trees

creates : (schema : Schema) (text : List ℕ) (made : Table) (old new : State) (count : ℕ)
    → IsDefinedBy schema text made → lacks_sequence (created schema made) ≡ false
    → old.now.schema ≡ schema → Executes text [] old new (Ok count) → Makes schema made old new
creates schema text made old new count is plain has h =
    let w = subst (λ t. Writes old new None CreateTable t [] count) is.1
    (runs_as text [] old new schema has CreateTable is.0 is.3 count h) in
    let all = went w.changed in
    let first = went all.1 in
    let it = first.1 in
    let same : it.table ≡ made = same_value (sym it.defined ∙ is.2) in
    let schemas : first.0.schema ≡ created schema made = it.is ∙ ap (λ s. created s it.table) has
    ∙ ap (created schema) same in
    let none : lacks_sequence first.0.schema ≡ false = ap lacks_sequence schemas ∙ plain in
    let now : new.now ≡ first.0 = ap (λ (p : Tally × Database). p.1) (same_value all.2)
    ∙ same_value (rw none at first.2) in (
      ap (λ (d : Database). d.schema) now ∙ schemas,
      ap (λ (d : Database). d.trees (next_tree schema)) now ∙ subst (λ s. first.0.trees (next_tree s) ≡ []) has
          it.empty,
      subst (λ (d : Database). KeepsRows schema.tables old.now.trees d.trees) (sym now)
          (subst (λ (s : Schema). KeepsRows s.tables old.now.trees first.0.trees) has it.others),
    )

-- ---- the four tables

abbrev one_table : Schema
one_table = record { tables = log_table ∷ []; indexes = []; views = [] }

abbrev two_tables : Schema
two_tables = record { tables = log_table ∷ opening_table ∷ []; indexes = []; views = [] }

abbrev three_tables : Schema
three_tables = record { tables = log_table ∷ opening_table ∷ batch_table ∷ []; indexes = []; views = [] }

abbrev log_text : List ℕ
log_text =
    codes "CREATE TABLE log     (id INTEGER PRIMARY KEY CHECK (id = 0), name TEXT NOT NULL, version TEXT NOT NULL,\n"
    ++ codes "                      epoch INTEGER NOT NULL, is_open INTEGER NOT NULL, next_entry INTEGER NOT NULL,\n"
    ++ codes "                      sum INTEGER NOT NULL) STRICT"

log_is : IsDefinedBy no_schema log_text (defined log_table)
unfolding understood everything
log_is = (refl, refl, refl, (refl, refl))

abbrev opening_text : List ℕ
opening_text = codes "CREATE TABLE opening (line INTEGER PRIMARY KEY, text TEXT NOT NULL) STRICT"

opening_is : IsDefinedBy one_table opening_text (defined opening_table)
unfolding understood everything
opening_is = (refl, refl, refl, (refl, refl))

abbrev batch_text : List ℕ
batch_text = codes
    "CREATE TABLE batch   (first INTEGER PRIMARY KEY, lines TEXT NOT NULL, sum INTEGER NOT NULL) STRICT"

batch_is : IsDefinedBy two_tables batch_text (defined batch_table)
unfolding understood everything
batch_is = (refl, refl, refl, (refl, refl))

abbrev object_text : List ℕ
object_text = codes
    "CREATE TABLE object  (number INTEGER PRIMARY KEY, name TEXT UNIQUE, shape TEXT NOT NULL, base TEXT) STRICT"

object_is : IsDefinedBy three_tables object_text (defined object_table)
unfolding understood everything
object_is = (refl, refl, refl, (refl, refl))

-- ---- the row of `log`

abbrev begin_terms : List Term
begin_terms = lit (Int (pos 0)) ∷ lit Null ∷ col 0 0 ∷ col 0 1 ∷ lit (Int (pos 0)) ∷ lit (Int (pos 0)) ∷ lit
    (Int (pos 0)) ∷ col 0 2 ∷ []

begin_is : Means begin_text (Insert 0 (Values begin_terms 8))
unfolding understood everything
begin_is = (refl, (refl, refl))

-- the four tables are there and empty
record IsEmptyLog (db : Trees) : Type 0 where
  log : db 0 ≡ []
  opening : db 1 ≡ []
  batches : db 2 ≡ []
  objects : db 3 ≡ []

begin_rows : (db after : Trees) (name version : List ℕ) (sum : ℤ) (all : List Row) → all
    ≡ log_row (new_journal name version sum) ∷ [] → IsEmptyLog db
    → Applies log_schema Enforced db (edit_of db log_table [] Chosen 0 all) after
    → HoldsRows after (new_journal name version sum)
begin_rows db after name version sum all given none it =
    let others = it.tables in
    let edit : edited db (edit_of db log_table [] Chosen 0 all) ≡ log_row (new_journal name version sum) ∷ [] =
    ap (λ all. edited db (edit_of db log_table [] Chosen 0 all)) given
    ∙ rw (cast_int (pos 0), cast_null, cast_int sum, none.log) refl in
    record {
      log = it.rows ∙ edit;
      opening = others.1.0 (λ e. omega (arith, e)) ∙ none.opening;
      batches = others.1.1.0 (λ e. omega (arith, e)) ∙ none.batches;
      objects = others.1.1.1.0 (λ e. omega (arith, e)) ∙ none.objects;
    }

begins : (old new : State) (name version : List ℕ) (sum : ℤ) (count : ℕ) → old.now.schema ≡ log_schema
    → IsEmptyLog old.now.trees → Executes begin_text (begin_row name version sum) old new (Ok count)
    → (new.now.schema ≡ log_schema) × HoldsRows new.now.trees (new_journal name version sum)
begins old new name version sum count has none h =
    let row = begin_row name version sum in
    let it = inserts begin_text row log_table begin_terms 8 old new count begin_is refl refl has h in
    (it.schema, begin_rows old.now.trees new.now.trees name version sum it.all it.is none it.applies)

-- all five statements, in turn
pub makes : (start first second third fourth last : State) (name version : List ℕ) (sum : ℤ)
    (counts : ℕ × ℕ × ℕ × ℕ × ℕ) → start.now.schema ≡ no_schema
    → Executes log_text [] start first (Ok counts.0) → Executes opening_text [] first second (Ok counts.1)
    → Executes batch_text [] second third (Ok counts.2)
    → Executes object_text [] third fourth (Ok counts.3) → Executes begin_text (begin_row name version sum) fourth
    last (Ok counts.4)
    → (last.now.schema ≡ log_schema) × HoldsLog last.now.trees (new_journal name version sum)
makes start first second third fourth last name version sum counts has a b c d e =
    let one = creates no_schema log_text (defined log_table) start first counts.0 log_is refl has a in
    let two = creates one_table opening_text (defined opening_table) first second counts.1 opening_is refl one.0 b in
    let three = creates two_tables batch_text (defined batch_table) second third counts.2 batch_is refl two.0 c in
    let four = creates three_tables object_text (defined object_table) third fourth counts.3 object_is refl three.0 d in
    let none : IsEmptyLog fourth.now.trees = record {
      log = four.2.0 ∙ three.2.0 ∙ two.2.0 ∙ one.1;
      opening = four.2.1.0 ∙ three.2.1.0 ∙ two.1;
      batches = four.2.1.1.0 ∙ three.1;
      objects = four.1;
    } in
    let all = begins fourth last name version sum counts.4 four.0 none e in
    (all.0, record { rows = all.1; rising = tt; below = tt; lines = tt })
