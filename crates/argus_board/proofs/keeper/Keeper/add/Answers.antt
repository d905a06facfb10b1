-- Who holds the newest right of a line may add a page, by which the line has its effects more and a new right.
use Rattle.std.proofs.Common.{List, ap, sym, ℕ, ◌++◌, ◌∙◌}
use Rattle.argus_board.proofs.History.{add_moves, line_adds}
use Rattle.argus_contents.specs.Effect.{Effect}
use Rattle.argus_board.specs.{declared.page.Page.Page, History.line}
use Rattle.argus_board.proofs.keeper.Keeper.add.Goals as goal

pub compare_exchange-requires : goal.compare_exchange-requires
compare_exchange-requires g c =
    let h = c.args.self.now.of_book in
    let offer = c.plain-offer.ensures in (
      ap (λ w. w.tracked) h.0,
      sym (ap (λ w. w.book) h.0),
      h.1 ∙ sym (ap (λ w. w.book) h.0),
      offer.0,
      rw (ap (λ w. w.key) h.0, offer.3) (add_moves c.args.self.now.front.seen.log c.args.self.now.pen.nib
          c.plain-offer.result.ask c.args.self.now.right),
    )

pub returns-clause-line : goal.returns-clause-line
returns-clause-line g c r is =
    let e = c.compare_exchange.ensures in
    let xs = c.args.self.now.front.seen.log in
    let ask = c.plain-offer.result.ask in
    let page : Page = record { uses = c.args.self.now.pen.nib.key; gives = ask.gives; effects = ask.effects } in
    let all = line_adds r xs e.7.0 c.compare_exchange.new.seen.log page is e.7.1 e.7.2 e.7.3 in
    ap (λ (s : ℕ × List Effect). s.1) all ∙ ap (λ (p : Page). line r xs ++ p.effects) c.plain-offer.ensures.1

pub returns-clause-next_right : goal.returns-clause-next_right
returns-clause-next_right g c r is =
    let e = c.compare_exchange.ensures in
    let xs = c.args.self.now.front.seen.log in
    let ask = c.plain-offer.result.ask in
    let page : Page = record { uses = c.args.self.now.pen.nib.key; gives = ask.gives; effects = ask.effects } in
    let all = line_adds r xs e.7.0 c.compare_exchange.new.seen.log page is e.7.1 e.7.2 e.7.3 in
    sym (ap (λ (s : ℕ × List Effect). s.0) all ∙ ap (λ (p : Page). p.gives) c.plain-offer.ensures.1)
