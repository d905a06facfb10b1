-- While the right is unused, all that anyone saw of the line is a beginning of it.
use Rattle.std.proofs.Common.{List, ap, subst, sym, ℕ, ◌∙◌}
use mathlib.Core.List.{IsPrefix}
use Rattle.argus_board.proofs.{History.{hold_moves, line_begins, line_stands}, Prefixes.begins_later}
use Rattle.argus_contents.specs.Effect.{Effect}
use Rattle.argus_board.specs.{declared.page.Page.Page, History.line}
use Rattle.argus_board.proofs.keeper.Keeper.covers.Goals as goal

pub compare_exchange-requires : goal.compare_exchange-requires
compare_exchange-requires c =
    let h = c.args.self.now.of_book in
    let offer = c.plain-offer.ensures in
    let both = c.learn.ensures.0 ∙ ap (λ s. s.book) c.again-both.ensures in (
      ap (λ w. w.tracked) h.0,
      both ∙ sym (ap (λ w. w.book) h.0),
      h.1 ∙ sym (ap (λ w. w.book) h.0),
      offer.0,
      rw (ap (λ w. w.key) h.0, offer.3) (hold_moves c.learn.new.self.log c.args.self.now.pen.nib
          c.plain-offer.result.ask c.args.self.now.right),
    )

pub returns-clause-begins : goal.returns-clause-begins
returns-clause-begins c r is =
    let e = c.compare_exchange.ensures in
    let mine = c.args.self.now.front.seen.log in
    let theirs = c.args.other.now.seen.log in
    let whole = c.compare_exchange.new.seen.log in
    let this : IsPrefix mine whole =
    begins_later mine _ whole
    (subst (λ (l : List Page). IsPrefix l c.learn.new.self.log) (ap
    (λ s. s.log) c.again-both.ensures) c.learn.ensures.2) e.6 in
    let that : IsPrefix theirs whole = begins_later theirs _ whole c.learn.ensures.3 e.6 in
    let same = ap (λ (s : ℕ × List Effect). s.1) (line_stands r c.args.self.now.pen.nib.key mine whole is this e.7.1) in
    subst (IsPrefix (line r theirs)) same (line_begins r theirs whole that)
