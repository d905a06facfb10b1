-- What reading shows: all batches, and all lines of the opening, in order. And reading leaves the log as it is.
use Rattle.std.proofs.Common.{true, ◌≡◌, inl, inr, ℕ, ℤ, List, [], ◌∷◌, map, refl, sym, ap, ap₂, subst, ◌∙◌, Less}
use Rattle.std.proofs.Common.{int_cmp, IsPermutation, IsTrue, Result, Ok, Err}
use Rattle.std.specs.{List.{flat_map}, Result.{OnOk, OnErr}}
use Rattle.sqlite.specs.{declared.types.Value.TheVariants.{Null, Int}, Order.{Row, value_cmp}, Program.overlay, Term.Term}
use Rattle.sqlite.specs.Query.{Query, inner, end, IsAnswer, output, output_cmp, Output, matches_as, page}
use Rattle.sqlite.specs.{Tree.{Trees, IsAscending}, Listing.understood, declared.error.Error.Error}
use Rattle.sqlite.specs.State.{State, Shown, IsNotRun, FailsToQuery, IsUnchanged, IsRolledBack}
use Rattle.sqlite.proofs.Callers.{reads_as, IsPlain}
use Rattle.sqlite_sql.proofs.QueryLemmas.{output_cmp_total}
use Rattle.sqlite_value.proofs.OrderLemmas.{value_cmp-Int, then-Equal}
use Rattle.sqlite_keyed.proofs.{ListLemmas.{ascending-map, all_weaker}, SortLemmas.sorted_unique}
use Rattle.argus_store.specs.Tables.{log_schema}
use Rattle.argus_store.specs.Journal.{Journal, batch_row, line_row, shown_batch, shown_line, shown_end, HoldsLog}
use Rattle.argus_store.specs.Journal.{AreRising, first_of, number_of}
use Rattle.argus_store.specs.Store.{HasLog}
use Rattle.argus_store.proofs.{Changes.{one_or_none}, Logs.unchanged}
use Rattle.argus_store.proofs.Statements.{end_text, end_query, end_is, opening_text, opening_terms, opening_is}
use Rattle.argus_store.proofs.Statements.{ordered_query, read_text, read_terms, read_is}

-- what a query without WHERE gives of a table's rows, each kept like this
module _ {X : Type 0} (kept : X → Row) (tree : ℕ) (query : Query) (out : X → Output)
    (shows : (x : X) → output query ([] ∷ kept x ∷ []) ≡ out x) where
  pub outputs : (all : Trees) (xs : List X) → all tree ≡ map kept xs
      → map (output query) (matches_as Null all [] (inner tree end) ([] ∷ [])) ≡ map out xs
  outputs all xs holds = rw holds (go xs)
    where
      go : (xs : List X) → map (output query) (flat_map (λ (r : Row). ([] ∷ r ∷ []) ∷ []) (map kept xs)) ≡ map out xs
      go [] = refl
      go (x ∷ xs) = ap₂ (λ o os. o ∷ os) (shows x) (go xs)

-- of a table whose rows are kept and shown like this, in the order of their numbers
module _ {X : Type 0} (number : X → ℤ) (kept shown : X → Row) (tree : ℕ) (project : List Term)
    (shows : (x : X) → output (ordered_query tree project) ([] ∷ kept x ∷ []) ≡ (Int (number x) ∷ [], shown x)) where
  -- what a row is sorted by, and what it shows
  abbrev shown_output : X → Output
  shown_output x = (Int (number x) ∷ [], shown x)

  abbrev in_order : Output → Output → Type 0
  in_order x y = output_cmp (ordered_query tree project) x y ≡ Less

  by_number : (x y : X) → int_cmp (number x) (number y) ≡ Less → in_order (shown_output x) (shown_output y)
  by_number x y h = then-Equal (value_cmp (Int (number x)) (Int (number y))) ∙ value_cmp-Int (number x) (number y) ∙ h

  ascending : (xs : List X) → AreRising number xs → IsAscending (λ x y. in_order (shown_output x) (shown_output y)) xs
  ascending [] up = tt
  ascending (x ∷ xs) up = (all_weaker _ _ (by_number x) xs up.0, ascending xs up.1)

  shown_rows : (xs : List X) → map (λ (o : Output). o.1) (map shown_output xs) ≡ map shown xs
  shown_rows [] = refl
  shown_rows (x ∷ xs) = ap (λ rows. shown x ∷ rows) (shown_rows xs)

  answers : (all : Trees) (xs : List X) (rows : List Row) → all tree ≡ map kept xs → AreRising number xs
      → IsAnswer (ordered_query tree project) all [] rows → rows ≡ map shown xs
  answers all xs rows holds up a =
      let query = ordered_query tree project in
      let kept : a.kept ≡ map shown_output xs = a.distinct ∙ ap (map (output query)) a.grouped
      ∙ outputs kept tree query shown_output shows all xs holds in
      let rises = ascending-map in_order shown_output xs (ascending xs up) in
      let ordered = sorted_unique (output_cmp query) (output_cmp_total query) (map shown_output xs)
      a.ordered rises (subst (λ k. IsPermutation k a.ordered) kept a.same) a.sorted in
      a.shown ∙ ap (λ os. page query [] (map (λ (o : Output). o.1) os)) ordered ∙ shown_rows xs

-- the batches are read
pub reads : (old new : State) (j : Journal) (rows : List Row) → old.now.schema ≡ log_schema → HoldsLog old.now.trees j
    → Shown read_text [] old new rows → rows ≡ map shown_batch j.batches
reads old new j rows has holds h = answers first_of batch_row shown_batch 2 read_terms (λ _. refl)
    (overlay old.now.trees []) j.batches rows holds.rows.batches holds.rising
    ((reads_as read_text [] old new log_schema has _ read_is.0.0 read_is.0.1 read_is.1 rows h).answer Null)

-- and the opening
pub reads_opening : (old new : State) (j : Journal) (rows : List Row) → old.now.schema ≡ log_schema
    → HoldsLog old.now.trees j → Shown opening_text [] old new rows → rows ≡ map shown_line j.opening
reads_opening old new j rows has holds h = answers number_of line_row shown_line 1 opening_terms (λ _. refl)
    (overlay old.now.trees []) j.opening rows holds.rows.opening holds.lines
    ((reads_as opening_text [] old new log_schema has _ opening_is.0.0 opening_is.0.1 opening_is.1 rows h).answer Null)

-- and reading the log's end shows its row
pub reads_end : (old new : State) (j : Journal) (rows : List Row) → old.now.schema ≡ log_schema
    → HoldsLog old.now.trees j → Shown end_text [] old new rows → rows ≡ shown_end j ∷ []
reads_end old new j rows has holds h =
    let all = overlay old.now.trees [] in
    let a : IsAnswer end_query all [] rows = (reads_as end_text [] old new log_schema has _ end_is.0.0 end_is.0.1
    end_is.1 rows h).answer Null in
    let one : map (output end_query) (matches_as Null all [] (inner 0 end) ([] ∷ [])) ≡ ([], shown_end j) ∷ [] =
    rw holds.rows.log refl in
    let kept : a.kept ≡ ([], shown_end j) ∷ [] = a.distinct ∙ ap (map (output end_query)) a.grouped ∙ one in
    let ordered = one_or_none true ([], shown_end j) a.kept a.ordered kept a.same in
    a.shown ∙ ap (λ os. page end_query [] (map (λ (o : Output). o.1) os)) ordered

-- ---- reading leaves the log as it is

-- what holds anyhow
pub at_ok : {T E : Type 0} (r : Result T E) {P : Type 0} → P → OnOk r P
at_ok (Ok x) p = p
at_ok (Err e) p = tt

pub at_fault : {T E : Type 0} (r : Result T E) {P : Type 0} → P → OnErr r P
at_fault (Ok x) p = tt
at_fault (Err e) p = p

module _ (old new : State) (j : Journal) (was : HasLog old j) where
  untouched : IsUnchanged old new → HasLog new j
  untouched same =
      let it = same.0 in
      unchanged old new j was it.is_open (it.mode ∙ was.autocommit) it.now_is it.committed_is

  undone : IsRolledBack old new → IsTrue new.is_open → HasLog new j
  undone back is_open =
      let to = back.undone is_open in
      unchanged old new j was is_open back.autocommit (to.0 ∙ was.committed) to.1

  module _ (sql : List ℕ) (plain : IsPlain (understood log_schema sql)) where
    -- at `Ok`
    pub kept_by_reading : (rows : List Row) → Shown sql [] old new rows → HasLog new j
    unfolding Shown
    kept_by_reading rows h =
        let known = sym h.1.is ∙ ap (λ s. understood s sql) was.schema in
        let bare = subst IsPlain (sym known) plain in
        untouched (rw bare.0 at h.2).3

    -- and at an error
    pub kept_at_fault : (e : Error) → FailsToQuery sql [] old new e → IsTrue new.is_open → HasLog new j
    unfolding FailsToQuery IsNotRun
    kept_at_fault e (inl (inl h)) is_open = untouched h.1
    kept_at_fault e (inl (inr h)) is_open = undone h.3 is_open
    kept_at_fault e (inr h) is_open =
        let known = sym h.1.is ∙ ap (λ s. understood s sql) was.schema in
        let bare = subst IsPlain (sym known) plain in
        untouched (rw bare.0 at h.2).3
