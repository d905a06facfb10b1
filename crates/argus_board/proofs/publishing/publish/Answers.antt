-- With its mark at the end, what is pending leaves what all effects leave; without memory nothing is published.
use Rattle.std.proofs.Common.{ap, sym, ◌++◌, ◌∙◌}
use Rattle.left_right.specs.Sides.{view}
use Rattle.argus_board.specs.HistoryPrefix.{line_of}
use Rattle.argus_board.specs.Published.{contents_of, effects_in, shown_effects, shown_table, unseen}
use Rattle.argus_board.proofs.Changes.{mark_adds_none, mark_leaves, on_err, one_of}
use Rattle.argus_board.proofs.Tables.{tables_kept, tables_of_all}
use Rattle.argus_board.proofs.publishing.publish.Goals as goal

pub show-requires-clause-leaves : goal.show-requires-clause-leaves
show-requires-clause-leaves g c =
    let x = shown_table c.args.writer.now in
    let root = g.N.Board.root in
    let front = c.args.front.now in
    rw (c.append_change.ensures.desk, c.in_ok-append_change.ensures.ok, c.again.ensures)
    (mark_leaves g.N.Board.first (contents_of x) (line_of root x.front) (line_of root front) x.front front
    (unseen c.args.writer.now) c.requires.tables.1 c.requires.tables.2)

pub returns-clause-tables : goal.returns-clause-tables
returns-clause-tables g c =
    let was = c.args.writer.now in
    let root = g.N.Board.root in
    let front = c.args.front.now in
    let desk = c.append_change.ensures.desk in
    one_of c.show.result c.show.ensures (λ _ v. tables_of_all g.N.Board.first root front c.show.new.writer v)
    (λ _ v. let same = ap effects_in (v.2 ∙ c.in_ok-append_change.ensures.ok)
    ∙ mark_adds_none (unseen was) c.again.result in
    tables_kept g.N.Board.first root (line_of root front) (line_of root front) was c.show.new.writer c.requires.tables
    (v.0 ∙ ap (λ d. view d.place) desk) (v.1 ∙ ap (λ d. d.shown.value) desk)
    (ap (λ z. shown_effects root was ++ z) same ∙ c.requires.tables.2)
    (λ none. absurd (c.is_behind.ensures.some c.if-not-is_behind.false (c.requires.tables.3 (sym same ∙ none)))))

pub returns-clause-err : goal.returns-clause-err
returns-clause-err g c =
    on_err _ _ c.show.result c.show.ensures
    (λ _ v. (
      v.1 ∙ ap (λ d. d.shown.value) c.append_change.ensures.desk,
      ap effects_in (v.2 ∙ c.in_ok-append_change.ensures.ok)
          ∙ mark_adds_none (unseen c.args.writer.now) c.again.result,
      (λ none. c.is_behind.ensures.some c.if-not-is_behind.false (c.requires.tables.3 none)),
    ))
