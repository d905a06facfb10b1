-- A crash, and the next opening: the schema that the files list, and the log in them.
use Rattle.std.proofs.Common.{◌≡◌, inl, inr, ℕ, zero, suc, ◌+◌, List, [], ◌∷◌, IsTrue, Some, refl, sym, ap, ap₂, subst}
use Rattle.std.proofs.{Common.{subst₂, arith, ◌∙◌, length, slice_get, filter}, Math.Logic.{∥∥₁_elim, ∥∥₁_map}}
use Rattle.std.specs.List.{AllZip}
use Rattle.sqlite_value.specs.{declared.value.Value.Value, Order.{Row, column}}
use Rattle.sqlite_value.specs.declared.value.Value.TheVariants.{Null, Int, Real, Text, Blob}
use Rattle.sqlite_disk.specs.declared.Disk.{Ghosts}
use Rattle.sqlite_wal.specs.Recovery.{Image}
use Rattle.sqlite_wal.proofs.LogLemmas.{SeenMayStay}
use Rattle.sqlite_trees.specs.{Tree.Trees, Props.Trees-set, Objects.catalog_tree}
use Rattle.sqlite_store.specs.{declared.store.FileStore.FileStore, Laws.settled_at}
use Rattle.sqlite_store.specs.FileStore as store
use Rattle.sqlite_schema.specs.{declared.schema.Table.Table, declared.schema.Index.Index, declared.schema.Schema.Schema}
use Rattle.sqlite_schema.specs.declared.schema.View.{View as Stored}
use Rattle.sqlite_rules.specs.Lists.{Has}
use Rattle.sqlite_catalog.specs.Listing.{IsSound, IsTableRow, IsIndexRow, IsViewRow, IsDefined, automatic, is_index_row}
use Rattle.sqlite.specs.{State.{State, Opens, IsLive}, Effect.Database, Held.{Held, AreDatabases}, Start.FindsIn}
use Rattle.sqlite.specs.Files.{file_state, HoldsDatabase}
use Rattle.sqlite.proofs.Theorems.{opens_again}
use Rattle.argus_store.specs.Tables.{log_table, opening_table, batch_table, object_table, log_schema}
use Rattle.argus_store.specs.{Journal.{Journal, HoldsLog}, Store.{HasLog, FilesHold, Keeps}}

-- ---- a row of the list names one table

same_table : (row : Row) (a b : Table) → IsTableRow row a → IsTableRow row b → a ≡ b
same_table row a b p q =
    let tree : a.tree + 1 ≡ b.tree + 1 = let e = sym p.described.id ∙ q.described.id in cc in
    let trees : a.tree ≡ b.tree = omega (arith, tree) in
    let text : p.sql ≡ q.sql = let e = sym p.sql_is ∙ q.sql_is in cc in
    let made : p.defined.0 ≡ q.defined.0 = let t = rw text at p.defined.1 in let e = sym t ∙ q.defined.1 in cc in
    p.defined.2 ∙ ap₂ (λ (m : Table) t. record m { tree = t }) made trees ∙ sym q.defined.2

same_tables : (rows : List Row) (xs ys : List Table) → AllZip IsTableRow rows xs → AllZip IsTableRow rows ys → xs ≡ ys
same_tables [] [] [] p q = refl
same_tables [] [] (y ∷ ys) p q = elim q [ ]
same_tables [] (x ∷ xs) ys p q = elim p [ ]
same_tables (row ∷ rows) [] ys p q = elim p [ ]
same_tables (row ∷ rows) (x ∷ xs) [] p q = elim q [ ]
same_tables (row ∷ rows) (x ∷ xs) (y ∷ ys) p q = ap₂ (λ a b. a ∷ b) (same_table row x y p.0 q.0)
    (same_tables rows xs ys p.1 q.1)

-- ---- and one index

abbrev name_index : Index
name_index = automatic object_table 0 (2 ∷ []) 4

abbrev tables : List Table
tables = log_table ∷ opening_table ∷ batch_table ∷ object_table ∷ []

-- the table of the names' index
owner_tree : (v : Value) (t : Table) → IsDefined t name_index v → t.tree ≡ 3
owner_tree Null t d = sym (ap (λ (i : Index). i.table) d.3)
owner_tree (Int n) t d = elim d [ ]
owner_tree (Real x) t d = elim d [ ]
owner_tree (Text sql) t d = sym (ap (λ (i : Index). i.table) d.2)
owner_tree (Blob b) t d = elim d [ ]

by_tree : (t : Table) → Has tables t → t.tree ≡ 3 → t ≡ object_table
by_tree t (inl is) e = absurd (omega (arith, e, ap (λ (t : Table). t.tree) is))
by_tree t (inr (inl is)) e = absurd (omega (arith, e, ap (λ (t : Table). t.tree) is))
by_tree t (inr (inr (inl is))) e = absurd (omega (arith, e, ap (λ (t : Table). t.tree) is))
by_tree t (inr (inr (inr (inl is)))) e = is
by_tree t (inr (inr (inr (inr none)))) e = elim none [ ]

by_name : (t : Table) → Has tables t → t.name ≡ object_table.name → t ≡ object_table
by_name t (inl is) e = absurd (omega (arith, ap length (sym e ∙ ap (λ (t : Table). t.name) is)))
by_name t (inr (inl is)) e = absurd (omega (arith, ap length (sym e ∙ ap (λ (t : Table). t.name) is)))
by_name t (inr (inr (inl is))) e = absurd (omega (arith, ap length (sym e ∙ ap (λ (t : Table). t.name) is)))
by_name t (inr (inr (inr (inl is)))) e = is
by_name t (inr (inr (inr (inr none)))) e = elim none [ ]

only_key : (at : ℕ) (key : List ℕ) (b : Index) → slice_get object_table.uniques at ≡ Some key → b
    ≡ automatic object_table at key b.tree → b.tree ≡ 4 → b ≡ name_index
only_key zero key b has is tree =
    let same : key ≡ 2 ∷ [] = let e = has in cc in
    is ∙ ap₂ (λ k t. automatic object_table 0 k t) same tree
only_key (suc at) key b has is tree = absurd (let e = has in cc)

same_definition : (v : Value) (b : Index) → IsDefined object_table name_index v → IsDefined object_table b v → b.tree
    ≡ 4 → b ≡ name_index
same_definition Null b p q tree = only_key q.0 q.1 b q.2 q.3 tree
same_definition (Int n) b p q tree = elim p [ ]
same_definition (Real x) b p q tree = elim p [ ]
same_definition (Text sql) b p q tree =
    let made : q.0 ≡ p.0 = let e = sym q.1 ∙ p.1 in cc in
    q.2 ∙ ap₂ (λ (m : Index) t. record m { tree = t; table = 3 }) made tree ∙ sym p.2
same_definition (Blob x) b p q tree = elim p [ ]

same_index : (row : Row) (b : Index) → IsIndexRow tables row name_index → IsIndexRow tables row b → b ≡ name_index
same_index row b p q =
    let first = by_tree p.table p.listed (owner_tree (column row 4) p.table p.defined) in
    let named : q.table.name ≡ p.table.name = let e = sym q.described.owner_is ∙ p.described.owner_is in cc in
    let second = by_name q.table q.listed (named ∙ ap (λ (t : Table). t.name) first) in
    let next : b.tree + 1 ≡ 4 + 1 = let e = sym q.described.id ∙ p.described.id in cc in
    let tree : b.tree ≡ 4 = omega (arith, next) in
    same_definition (column row 4) b (subst (λ t. IsDefined t name_index (column row 4)) first p.defined)
    (subst (λ t. IsDefined t b (column row 4)) second q.defined) tree

same_indexes : (rows : List Row) (ys : List Index) → AllZip (IsIndexRow tables) rows (name_index ∷ [])
    → AllZip (IsIndexRow tables) rows ys → ys ≡ name_index ∷ []
same_indexes [] ys p q = elim p [ ]
same_indexes (row ∷ []) [] p q = elim q [ ]
same_indexes (row ∷ []) (y ∷ []) p q = ap (λ i. i ∷ []) (same_index row y p.0 q.0)
same_indexes (row ∷ []) (y ∷ z ∷ ys) p q = elim q.1 [ ]
same_indexes (row ∷ other ∷ rows) ys p q = elim p.1 [ ]

none_too : (rows : List Row) (ys : List Stored) → AllZip IsViewRow rows [] → AllZip IsViewRow rows ys → ys ≡ []
none_too [] [] p q = refl
none_too [] (y ∷ ys) p q = elim q [ ]
none_too (row ∷ rows) ys p q = elim p [ ]

abbrev schema_of : List Table → List Index → List Stored → Schema
schema_of t i v = record { tables = t; indexes = i; views = v }

-- trees that list the log's tables list no other schema
pub only_schema : (s : Schema) (db : Trees) → IsSound log_schema db → IsSound s db → s ≡ log_schema
only_schema s db a b =
    let x = a.lists.listed in
    let y = b.lists.listed in
    let t : s.tables ≡ tables = sym (same_tables _ _ _ x.tables y.tables) in
    let i : s.indexes ≡ name_index ∷ [] = same_indexes _ _ x.indexes
    (subst (λ t. AllZip (IsIndexRow t) (filter is_index_row (db catalog_tree)) s.indexes) t y.indexes) in
    let v : s.views ≡ [] = none_too _ _ x.views y.views in
    ap (λ t. schema_of t s.indexes s.views) t ∙ ap (λ i. schema_of tables i s.views) i
    ∙ ap (schema_of tables (name_index ∷ [])) v

-- ---- from one run to the next

pub keeps_after_crash : {D : Type 0} {g : Ghosts D} (c : Held (FileStore D g)) → SeenMayStay g
    → IsTrue (store.view c.store).is_numbered → IsLive (file_state c) → Keeps c
keeps_after_crash c stays numbered live j left was may =
    let it = c.store in
    let old = file_state c in
    let only = λ (db : Trees) (leaves : store.recovers it db). settled_at it stays db was.is_open leaves in
    let sound : AreDatabases (store.recovers it) = λ db leaves. (
      old.committed.schema,
      subst (λ t. IsSound old.committed.schema t) (sym (only db leaves))
          (live was.is_open).1,
    ) in
    let trees : old.committed.trees ≡ old.now.trees = ap (λ (d : Database). d.trees) was.committed in
    record {
      db = old.committed.trees;
      held = ∥∥₁_map (opens_again it numbered sound left may)
          (λ found. subst (HoldsDatabase left) (only found.0 found.1) found.2);
      sound = subst₂ IsSound was.schema (sym trees) (live was.is_open).0;
      holds = subst (λ t. HoldsLog t j) (sym trees) was.holds;
    }

pub opens_with : (image : Image) (s : State) (j : Journal) → FilesHold image j → FindsIn image s → Opens s → IsLive s
    → HasLog s j
opens_with image s j files found opens live =
    let trees : s.committed.trees ≡ files.db = ∥∥₁_elim files.held (Trees-set _ _) (found.holds _) in
    let all : s.now.trees ≡ files.db = ap (λ (d : Database). d.trees) opens.clean ∙ trees in
    record {
      is_open = opens.is_open;
      autocommit = opens.autocommit;
      schema = only_schema _ _ files.sound (subst (IsSound s.now.schema) all (live opens.is_open).0);
      holds = subst (λ t. HoldsLog t j) (sym all) files.holds;
      committed = sym opens.clean;
    }
