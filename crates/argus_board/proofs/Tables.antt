-- The tables of a board, if it has any.
use Rattle.std.proofs.{Common.{List, None, Option, Some, [], ap, subst, sym, ℕ, ◌++◌, ◌∙◌, ◌≡◌}, lemmas.List.append-nil}
use Rattle.std.specs.Prelude.{Err, MatchOption, Ok, OnErr, Result}
use Rattle.left_right.specs.{declared.Absorb.Ghosts, declared.writer.Writer.Writer}
use Rattle.argus_contents.specs.{Content.PlainContent, Effect.Effect}
use Rattle.argus_board.specs.{Effects.contents_after, HistoryPrefix.line_of, declared.table.Table.Table}
use Rattle.argus_board.specs.Published.{AreTables, ShowsAll, contents_of, effects_in, seen_by, shown_effects}
use Rattle.argus_board.specs.Published.{shown_table, unseen, unseen_effects}
use Rattle.argus_board.specs.declared.board_change.BoardChange.{BoardChange}
use Rattle.argus_board.specs.declared.history_prefix.HistoryPrefix.{HistoryPrefix}

module _ {W : Type 0} (P : Type 0) (Q : W → Type 0) where
  pub some_of : (tables : Option W) (w : W) → tables ≡ Some w → MatchOption tables P Q → Q w
  some_of tables w is h = subst (λ t. MatchOption t P Q) is h

  pub none_of : (tables : Option W) → tables ≡ None → MatchOption tables P Q → P
  none_of tables is h = subst (λ t. MatchOption t P Q) is h

pub if_err : {A B P : Type 0} (r : Result A B) → P → OnErr r P
if_err (Ok a) p = tt
if_err (Err b) p = p

module _ {P A S : Type 0} {g : Ghosts Table BoardChange S} (first : List (Option PlainContent)) (root : ℕ) where
  -- where readers see all, the tables are those of all effects
  pub tables_of_all : (front : HistoryPrefix) (w : Writer Table BoardChange (List Effect) P A S g)
      → ShowsAll first root front w → AreTables first root (line_of root front) w
  tables_of_all front w all = (
    all.0 ∙ ap (line_of root) (sym all.2),
    all.1 ∙ ap (λ (f : HistoryPrefix). contents_after first (line_of root f)) (sym all.2),
    ap (λ (f : HistoryPrefix). line_of root f ++ unseen_effects w) all.2
        ∙ ap (λ (z : List BoardChange). line_of root front ++ effects_in z) all.3 ∙ append-nil (line_of root front),
    (λ none. all.3),
  )

  -- where readers see what they saw, the tables are those of the effects that are left now
  pub tables_kept : (known later : List Effect) (was now : Writer Table BoardChange (List Effect) P A S g)
      → AreTables first root known was → seen_by now ≡ seen_by was → shown_table now ≡ shown_table was
      → shown_effects root was ++ unseen_effects now ≡ later → (unseen_effects now ≡ [] → unseen now ≡ [])
      → AreTables first root later now
  tables_kept known later was now held seen table whole marks = (
    seen ∙ held.0 ∙ ap (λ (t : Table). line_of root t.front) (sym table),
    ap contents_of table ∙ held.1 ∙ ap (λ (t : Table). contents_after first (line_of root t.front)) (sym table),
    ap (λ (t : Table). line_of root t.front ++ unseen_effects now) table ∙ whole,
    marks,
  )
