-- The search in the tree begins at the first action that isn't folded, or where it is asked to.
use Rattle.std.proofs.Common.{ap, arith, ◌∙◌}
use Rattle.argus_core.proofs.StatusTold.{first_found, live_found, none_folded, none_found}
use Rattle.argus_journal.specs.Opening.{Opening}
use Rattle.argus_core.proofs.guardian.Guardian.live.Goals as goal

pub returns-then-from-first-clause-live : goal.returns-then-from-first-clause-live
returns-then-from-first-clause-live c =
    let g = c.self.inside.state in
    let at = c.first_action-first.ensures.first ∙ ap (λ (s : Opening). s.first_action) c.journal.ensures.opening in
    rw (← c.self.view_is) (live_found g c.self.invariant c.args.from c.first_action-first.result c.first_live.result
    (λ x ge. none_folded g c.self.invariant c.first_action-first.result at x) c.first_live.ensures.live)

pub returns-then-from-first-clause-first : goal.returns-then-from-first-clause-first
returns-then-from-first-clause-first c =
    let g = c.self.inside.state in
    let at = c.first_action-first.ensures.first ∙ ap (λ (s : Opening). s.first_action) c.journal.ensures.opening in
    rw (← c.self.view_is) (first_found g c.self.invariant c.args.from c.first_action-first.result c.first_live.result
    (λ x ge. none_folded g c.self.invariant c.first_action-first.result at x) c.first_live.ensures.first)

pub returns-then-from-first-clause-none : goal.returns-then-from-first-clause-none
returns-then-from-first-clause-none c =
    let g = c.self.inside.state in
    let at = c.first_action-first.ensures.first ∙ ap (λ (s : Opening). s.first_action) c.journal.ensures.opening in
    rw (← c.self.view_is) (none_found g c.self.invariant c.args.from c.first_action-first.result c.first_live.result
    (λ x ge. none_folded g c.self.invariant c.first_action-first.result at x) c.first_live.ensures.none)

pub returns-else-from-first-clause-live : goal.returns-else-from-first-clause-live
returns-else-from-first-clause-live c =
    let g = c.self.inside.state in
    rw (← c.self.view_is) (live_found g c.self.invariant c.args.from c.args.from c.first_live-else-from-first.result
    (λ x ge lt. absurd (omega (arith, ge, lt))) c.first_live-else-from-first.ensures.live)

pub returns-else-from-first-clause-first : goal.returns-else-from-first-clause-first
returns-else-from-first-clause-first c =
    let g = c.self.inside.state in
    rw (← c.self.view_is) (first_found g c.self.invariant c.args.from c.args.from c.first_live-else-from-first.result
    (λ x ge lt. absurd (omega (arith, ge, lt))) c.first_live-else-from-first.ensures.first)

pub returns-else-from-first-clause-none : goal.returns-else-from-first-clause-none
returns-else-from-first-clause-none c =
    let g = c.self.inside.state in
    rw (← c.self.view_is) (none_found g c.self.invariant c.args.from c.args.from c.first_live-else-from-first.result
    (λ x ge lt. absurd (omega (arith, ge, lt))) c.first_live-else-from-first.ensures.none)
