-- The place sees all that is published, and what was copied is what these effects leave.
use Rattle.std.proofs.Common.{ap, sym, ◌∙◌, ◌≡◌}
use Rattle.argus_board.specs.{Effects.{contents_after, plain_contents}, HistoryPrefix.line_of}
use Rattle.argus_board.specs.declared.table.Table.{Table}
use Rattle.argus_board.proofs.{Contents.looked_up, Rule.looks}
use Rattle.argus_board.proofs.looker.Looker.looked.Goals as goal

pub enter_as-requires : goal.enter_as-requires
enter_as-requires g c x = looks _ _ _ _ _ x

pub returns-in-Ok-found-clause-answer : goal.returns-in-Ok-found-clause-answer
returns-in-Ok-found-clause-answer g c =
    let t = c.in-Ok.reading.part.value in
    let first = g.N.Board.first in
    let root = g.N.Board.root in
    let later = line_of root c.again-front.result in
    let sees = c.in-Ok.ensures.1 in
    let front : c.again-front.result ≡ t.front = c.again-front.ensures
    ∙ ap (λ (x : Table). x.front) c.get-table.ensures in
    let contents : plain_contents c.as_slice.result.now ≡ contents_after first later =
    ap plain_contents (c.as_slice.ensures.value ∙ ap (λ (x : Table). x.contents.items) c.get-table.ensures)
    ∙ sees.2.0 ∙ ap (contents_after first) (sym (ap (line_of root) front)) in
    c.in-Ok-found.ensures
    ∙ looked_up g.N.Board.opening_contents g.N.Board.before later first
    (plain_contents c.as_slice.result.now) c.self.invariant.0 contents
    c.args.objects.now
