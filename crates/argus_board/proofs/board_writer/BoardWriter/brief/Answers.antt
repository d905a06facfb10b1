-- What the looker saw begins what the keeper knows, all of which is shown.
use Rattle.std.proofs.Common.{List, ap, drop, length, sym, ℕ, ◌++◌, ◌∙◌, ◌≡◌}
use mathlib.Core.List.{IsPrefix}
use Rattle.argus_contents.specs.Effect.{Effect}
use Rattle.argus_board.specs.{BoardView.BoardView, HistoryPrefix.line_of, Published.unseen_effects}
use Rattle.argus_board.specs.declared.history_prefix.HistoryPrefix.{HistoryPrefix}
use Rattle.argus_board.proofs.{Prefixes.{behind, begins_behind, left_behind}, Tables.{if_err, some_of}}
use Rattle.argus_board.proofs.board_writer.BoardWriter.brief.Goals as goal

former : (before seen known shown : List Effect) (places : ℕ) (board : BoardView) (looker : List Effect)
    → IsPrefix seen known → IsPrefix shown known → before ++ seen ≡ looker
    → record { published = before ++ shown; pending = drop (length shown) known; places_left = places } ≡ board
    → IsPrefix looker (board.published ++ board.pending)
former before seen known shown places board looker mine part saw is =
    let all = begins_behind before seen known shown (drop (length shown) known) mine (behind shown known part) in (
      all.0,
      ap (λ k. k ++ all.0) (sym saw) ∙ all.1 ∙ ap (λ (s : BoardView). s.published ++ s.pending) is,
    )

pub returns-in_err-publish-clause-former : goal.returns-in_err-publish-clause-former
returns-in_err-publish-clause-former g c =
    let root = g.N.Board.root in
    former g.N.Board.before (line_of root c.looker.inside.front) (line_of root c.self.inside.keeper.front)
    (line_of root c.self.inside.shown) _ _ _ (c.covers.ensures.begins root c.self.invariant.4) c.self.invariant.5
    c.looker.view_is c.self.view_is

pub returns-clause-former : goal.returns-clause-former
returns-clause-former g c =
    let root = g.N.Board.root in
    former g.N.Board.before (line_of root c.looker.inside.front) (line_of root c.self.inside.keeper.front)
    (line_of root c.self.inside.shown) _ _ _ (c.covers.ensures.begins root c.self.invariant.4) c.self.invariant.5
    c.looker.view_is c.self.view_is

pub returns-in_err-publish-clause-err : goal.returns-in_err-publish-clause-err
returns-in_err-publish-clause-err g c =
    let root = g.N.Board.root in
    let shown = line_of root c.self.inside.shown in
    let known = line_of root c.self.inside.keeper.front in
    let was = c.in-Some.tables in
    let held = some_of _ _ c.self.inside.tables was c.in-Some.is c.self.invariant.6 in
    let left : drop (length shown) known ≡ unseen_effects was =
    left_behind shown _ known (ap (λ z. z ++ unseen_effects was) (sym held.1) ∙ held.2.2) in
    if_err c.from_residual.result (
      ap (λ (f : HistoryPrefix). record {
        published = g.N.Board.before ++ shown;
        pending = drop (length shown) (line_of root f);
        places_left = c.self.inside.unused;
      }) c.covers.ensures.front ∙ c.self.view_is,
      (λ none. c.in_err-publish.ensures.err.2 (sym left ∙ ap (λ (s : BoardView). s.pending) c.self.view_is ∙ none)),
      c.looker.view_is,
    )
