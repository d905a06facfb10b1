-- What the texts of the statements mean over the log's tables: the check runs SQL's meaning on each.
use Rattle.std.proofs.Common.{◌≡◌, ℕ, pos, negsuc, List, [], ◌∷◌, codes, false, None, refl}
use Rattle.sqlite.specs.{Collation.TheVariants.Binary, declared.types.Value.TheVariants.{Null, Int}}
use Rattle.sqlite.specs.{Term.{Term, lit, col, op2}, Query.{Query, inner, end}, Source.TheVariants.Values}
use Rattle.sqlite.specs.Command.{Command, TheVariants.{Insert, Update, Select, Delete}}
use Rattle.sqlite.specs.Listing.{understood, reads_listing}
use Rattle.sqlite_sql.specs.{declared.ops.BinaryOp.TheVariants.Compare, declared.ops.CompareOp.TheVariants.Eq}
use Rattle.sqlite_schema.specs.declared.program.Program.{Program}
use Rattle.sqlite_tied.specs.Compute.{everything}
use Rattle.sqlite.proofs.Callers.{IsPlain, command_of}
use Rattle.argus_store.specs.Tables.{log_schema}

-- over the log's tables the text is this command's
abbrev pub Means : List ℕ → Command → Type 0
Means text command = (command_of (understood log_schema text) ≡ command) × IsPlain (understood log_schema text)

abbrev pub Reads : List ℕ → Program → List (List ℕ) → Type 0
Reads text program names = Means text (Select program names) × (reads_listing log_schema text ≡ false)

-- ---- the log's end is moved

abbrev pub move_text : List ℕ
move_text = codes
    "UPDATE log SET next_entry = ?1, sum = ?2 WHERE next_entry = ?3 AND sum = ?4 AND name = ?5"

abbrev pub move_query : Query
move_query = record {
  from = inner 0 end;
  filter = op2 (Compare Eq Binary) (col 1 6) (col 0 2) ∷ op2 (Compare Eq Binary) (col 1 7) (col 0 3)
      ∷ op2 (Compare Eq Binary) (col 1 2) (col 0 4) ∷ [];
  group = None;
  project = col 1 0 ∷ col 1 0 ∷ lit Null ∷ col 1 2 ∷ col 1 3 ∷ col 1 4 ∷ col 1 5 ∷ col 0 0 ∷ col 0 1 ∷ [];
  distinct = false;
  collations = [];
  order = [];
  limit = lit (Int (negsuc 0));
  offset = lit (Int (pos 0));
}

abbrev pub move_program : Program
move_program = record { lets = []; body = move_query }

pub move_is : Means move_text (Update 0 move_program)
unfolding understood everything
move_is = (refl, (refl, refl))

-- ---- a batch is put in

abbrev pub put_text : List ℕ
put_text = codes "INSERT INTO batch (first, lines, sum) VALUES (?1, ?2, ?3)"

abbrev pub put_terms : List Term
put_terms = col 0 0 ∷ lit Null ∷ col 0 1 ∷ col 0 2 ∷ []

pub put_is : Means put_text (Insert 2 (Values put_terms 4))
unfolding understood everything
put_is = (refl, (refl, refl))

-- ---- all batches, and all lines of the opening, are taken out

abbrev pub clear_query : ℕ → Query
clear_query tree = record move_query { from = inner tree end; filter = []; project = col 1 0 ∷ [] }

abbrev pub Clears : List ℕ → ℕ → Type 0
Clears text tree = Means text (Delete tree (record { lets = []; body = clear_query tree }))

abbrev pub clear_batches_text : List ℕ
clear_batches_text = codes "DELETE FROM batch"

pub clear_batches_is : Clears clear_batches_text 2
unfolding understood everything
clear_batches_is = (refl, (refl, refl))

abbrev pub clear_opening_text : List ℕ
clear_opening_text = codes "DELETE FROM opening"

pub clear_opening_is : Clears clear_opening_text 1
unfolding understood everything
clear_opening_is = (refl, (refl, refl))

-- ---- an opening is put in

abbrev pub open_text : List ℕ
open_text = codes "INSERT INTO opening VALUES (0, ?1)"

abbrev pub open_terms : List Term
open_terms = lit (Int (pos 0)) ∷ lit Null ∷ col 0 0 ∷ []

pub open_is : Means open_text (Insert 1 (Values open_terms 3))
unfolding understood everything
open_is = (refl, (refl, refl))

-- ---- the log's end is read

abbrev pub end_text : List ℕ
end_text = codes "SELECT name, next_entry, sum, is_open FROM log"

abbrev pub end_query : Query
end_query = record move_query { filter = []; project = col 1 2 ∷ col 1 6 ∷ col 1 7 ∷ col 1 5 ∷ [] }

abbrev pub end_program : Program
end_program = record { lets = []; body = end_query }

pub end_is : Reads end_text end_program (codes "name" ∷ codes "next_entry" ∷ codes "sum" ∷ codes "is_open" ∷ [])
unfolding understood everything
end_is = ((refl, (refl, refl)), refl)

-- ---- these columns of a table's rows are read, in the order of its key

abbrev pub ordered_query : ℕ → List Term → Query
ordered_query tree project = record {
  from = inner tree end;
  filter = [];
  group = None;
  project = project;
  distinct = false;
  collations = [];
  order = (col 1 0, record { collation = Binary; descending = false }) ∷ [];
  limit = lit (Int (negsuc 0));
  offset = lit (Int (pos 0));
}

-- ---- the batches are read

abbrev pub read_text : List ℕ
read_text = codes "SELECT first, lines, sum FROM batch ORDER BY first"

abbrev pub read_terms : List Term
read_terms = col 1 0 ∷ col 1 2 ∷ col 1 3 ∷ []

abbrev pub read_query : Query
read_query = ordered_query 2 read_terms

abbrev pub read_program : Program
read_program = record { lets = []; body = read_query }

pub read_is : Reads read_text read_program (codes "first" ∷ codes "lines" ∷ codes "sum" ∷ [])
unfolding understood everything
read_is = ((refl, (refl, refl)), refl)

-- ---- the opening is read

abbrev pub opening_text : List ℕ
opening_text = codes "SELECT line, text FROM opening ORDER BY line"

abbrev pub opening_terms : List Term
opening_terms = col 1 0 ∷ col 1 2 ∷ []

abbrev pub opening_program : Program
opening_program = record { lets = []; body = ordered_query 1 opening_terms }

pub opening_is : Reads opening_text opening_program (codes "line" ∷ codes "text" ∷ [])
unfolding understood everything
opening_is = ((refl, (refl, refl)), refl)
