-- The rule of the board lets the table grow by what is pending.
use Rattle.std.proofs.Common.{List, Option, ap, subst, sym, ◌∙◌, ◌≡◌}
use mathlib.Core.List.{IsPrefix}
use Rattle.argus_contents.specs.Content.{PlainContent}
use Rattle.argus_board.specs.{Effects.contents_after, HistoryPrefix.{book_of, line_of}}
use Rattle.argus_board.specs.{Published.{contents_of, shown_table}, declared.history_prefix.HistoryPrefix.HistoryPrefix}
use Rattle.argus_board.proofs.Rule.{rises}
use Rattle.argus_board.proofs.publishing.publish_owned.Goals as goal

pub publish_as-writer-requires : goal.publish_as-writer-requires
publish_as-writer-requires g c next is =
    let x = shown_table c.args.writer in
    let first = g.N.Board.first in
    let root = g.N.Board.root in
    let both = is ∙ c.requires.leaves in
    let front : next.front ≡ c.args.front.now = ap (λ (s : List (Option PlainContent) × HistoryPrefix). s.1) both in
    let log = ap (line_of root) front in
    let contents : contents_of next ≡ contents_after first (line_of root c.args.front.now) =
    ap (λ (s : List (Option PlainContent) × HistoryPrefix). s.0) both in
    rises first g.N.Board.history root _ _ x next (subst (IsPrefix (line_of root x.front)) (sym log) c.requires.begins)
    (contents ∙ ap (contents_after first) (sym log), ap book_of front ∙ c.requires.book)
