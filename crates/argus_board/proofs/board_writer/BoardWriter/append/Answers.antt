-- One effect more is pending, the newest of the history; what is published stays.
use Rattle.std.proofs.Common.{[], ap, refl, sym, ◌++◌, ◌∙◌, ◌∷◌, ◌≡◌}
use Rattle.left_right.specs.Sides.{view}
use Rattle.argus_contents.specs.Effect.{plain_effect}
use Rattle.argus_board.specs.{HistoryPrefix.line_of, Published.{effects_in, shown_effects, unseen}}
use Rattle.argus_board.specs.declared.board_change.BoardChange.TheVariants.{Leaves}
use Rattle.argus_board.proofs.{Changes.{leaf_some, leaf_whole}, Prefixes.begins_more}
use Rattle.argus_board.proofs.Tables.{none_of, some_of, tables_kept}
use Rattle.argus_board.proofs.board_writer.BoardWriter.append.Goals.{in-None, in-Some+in_ok-append_change-in-Some}
use Rattle.argus_board.proofs.board_writer.BoardWriter.append.Goals as goal

pub invariant_of-self-2 : goal.invariant_of-self-2
invariant_of-self-2 g c =
    let inv = c.self.invariant in
    let root = g.N.Board.root in
    let f = line_of root c.self.inside.keeper.front in
    let e = plain_effect c.args.effect.items in
    let later = line_of root c.add.new.self.front in
    let more : later ≡ f ++ e ∷ [] =
    c.add.ensures.line root inv.4 ∙ ap (λ v. f ++ plain_effect v.items ∷ []) c.of-page.ensures in (
      inv.0,
      c.add.ensures.book ∙ inv.1,
      inv.2,
      inv.3,
      c.add.ensures.next_right root inv.4,
      begins_more (line_of root c.self.inside.shown) f later (e ∷ []) inv.5 more,
      elim c.match-tables.branch [
        | in-Some+in_ok-append_change-in-Some w ↦
            let was = w.in-Some.tables in
            let ops = unseen was in
            let held = some_of _ _ c.self.inside.tables was w.in-Some.is inv.6 in
            let desk = w.append_change.ensures.desk in
            let all = w.in_ok-append_change-in-Some.ensures.ok in
            rw (ap (λ z. z.1.0) w.self-inside-is) (
              held.0,
              rw desk held.1,
              tables_kept g.N.Board.first root f later was w.append_change.new.writer held.2
                  (ap (λ d. view d.place) desk) (ap (λ d. d.shown.value) desk)
                  (rw all (leaf_whole (shown_effects root was) f later ops (Leaves c.args.effect) e held.2.2 more refl))
                  (λ none. absurd (leaf_some ops (Leaves c.args.effect) e refl (sym (ap effects_in all) ∙ none))),
            )
        | in-None w ↦ rw (ap (λ z. z.1.0) w.self-inside-is, w.in-None.is) (none_of _ _ c.self.inside.tables w.in-None.is inv.6)
      ],
    )
