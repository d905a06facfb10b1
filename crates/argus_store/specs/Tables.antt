-- The tables of a log, as docs/DURABLE.md has them, and the rows that they keep.
use Rattle.std.specs.Prelude.{ℕ, pos, Bool, true, false, List, [], ◌∷◌, Some, codes}
use Rattle.sqlite.specs.{Collation.TheVariants.Binary, declared.types.Value.TheVariants.{Null, Int}, Kind.Kind}
use Rattle.sqlite.specs.{Kind.TheVariants.{Integer, Text}, Table.Table, Schema.Schema, Term.{Term, lit, col, op2}}
use Rattle.sqlite_sql.specs.{declared.ops.BinaryOp.TheVariants.Compare, declared.ops.CompareOp.TheVariants.Eq}
use Rattle.sqlite_schema.specs.declared.schema.Column.{Column}
use Rattle.sqlite_catalog.specs.Listing.{automatic}
use Rattle.sqlite_value.specs.{declared.keys.Order.Order, Keys.plain}

-- a column of a STRICT table, with no default
abbrev pub column : List ℕ → Kind → Bool → Column
column name kind not_null = record {
  name = name;
  kind = kind;
  is_strict = true;
  not_null = not_null;
  default = Null;
  collation = Binary;
}

-- a table whose first column is its INTEGER PRIMARY KEY
abbrev pub table : List ℕ → ℕ → List Column → List Term → List (List ℕ) → List Order → Table
table name tree columns checks uniques orders = record {
  name = name;
  tree = tree;
  columns = columns;
  key = Some 0;
  primary = 0 ∷ [];
  uniques = uniques;
  orders = orders;
  checks = checks;
  references = [];
  computed = [];
  stamps = record { places = []; terms = []; formats = [] };
  is_counted = false;
}

-- of one row, which says whose log it is and where it ends
abbrev pub log_table : Table
log_table = table (codes "log") 0
    (column (codes "id") Integer false ∷ column (codes "name") Text true
    ∷ column (codes "version") Text true ∷ column (codes "epoch") Integer true
    ∷ column (codes "is_open") Integer true ∷ column (codes "next_entry") Integer true
    ∷ column (codes "sum") Integer true ∷ [])
    (op2 (Compare Eq Binary) (col 1 0) (lit (Int (pos 0))) ∷ []) [] []

-- the lines of the last checkpoint
abbrev pub opening_table : Table
opening_table = table (codes "opening") 1
    (column (codes "line") Integer false ∷ column (codes "text") Text true ∷ []) [] [] []

abbrev pub batch_table : Table
batch_table = table (codes "batch") 2
    (column (codes "first") Integer false ∷ column (codes "lines") Text true
    ∷ column (codes "sum") Integer true ∷ [])
    [] [] []

-- the objects' names, and what they held at the last checkpoint
abbrev pub object_table : Table
object_table = table (codes "object") 3
    (column (codes "number") Integer false ∷ column (codes "name") Text false
    ∷ column (codes "shape") Text true ∷ column (codes "base") Text false ∷ [])
    [] ((2 ∷ []) ∷ []) (plain ∷ [])

abbrev pub no_schema : Schema
no_schema = record { tables = []; indexes = []; views = [] }

-- the four tables, and the index by which no two objects have one name
abbrev pub log_schema : Schema
log_schema = record {
  tables = log_table ∷ opening_table ∷ batch_table ∷ object_table ∷ [];
  indexes = automatic object_table 0 (2 ∷ []) 4 ∷ [];
  views = [];
}
