-- Each action that is live when its turn comes is a topaction, and is aborted; in the end none is live.
use Rattle.std.proofs.Common.{ap, arith, sym, ◌∙◌}
use Rattle.argus_core.proofs.AbortingLive.{all_aborted, all_quiet, next_at, over_aborted, over_folded, on_err}
use Rattle.argus_core.proofs.{AbortingLive.{over_next, some_left}, aborting_live.abort_each.Goals.else-is_live}
use Rattle.argus_core.proofs.aborting_live.abort_each.Goals.{then-is_live+in_ok-abort+in-Answered-1}
use Rattle.argus_core.proofs.aborting_live.abort_each.Goals.{then-is_live+in_ok-abort+in-Object-1}
use Rattle.argus_core.specs.{AbortingLive.live_topactions, GuardianState.journal_view_of}
use Rattle.argus_core.proofs.aborting_live.abort_each.Goals as goal

pub loop-a-init : goal.loop-a-init
loop-a-init c = (
  c.requires,
  over_folded c.args.state.now c.requires _ c.journal.ensures.opening c.first_action-first.result
      c.first_action-first.ensures.first,
)

pub loop-a-preserved : goal.loop-a-preserved
loop-a-preserved c =
    let v = c.loop-a.invariant in
    elim c.if-is_live.branch [
      | then-is_live+in_ok-abort+in-Answered-1 w ↦
          rw w.state-is (
            w.abort.ensures.kept,
            over_aborted c.loop-a.state v.0 (journal_view_of c.args.state.now)
                c.loop-a.a v.1 (sym c.is_live.ensures ∙ w.if-is_live.true) w.abort.new.state w.abort.ensures.kept
                w.in_ok-abort.ensures.answered.ok,
          )
      | then-is_live+in_ok-abort+in-Object-1 w ↦
          rw w.state-is (
            w.abort.ensures.kept,
            over_aborted c.loop-a.state v.0 (journal_view_of c.args.state.now)
                c.loop-a.a v.1 (sym c.is_live.ensures ∙ w.if-is_live.true) w.abort.new.state w.abort.ensures.kept
                w.in_ok-abort.ensures.answered.ok,
          )
      | else-is_live w ↦
          rw w.state-is (
            v.0,
            over_next c.loop-a.state v.0 (journal_view_of c.args.state.now) c.loop-a.a v.1
                (sym c.is_live.ensures ∙ w.if-is_live.false),
          )
    ]

pub returns-clause-ok : goal.returns-clause-ok
returns-clause-ok c =
    let e = c.len-a-end.ensures in
    let n = next_at c.args.state.now c.requires in
    let past = c.loop-a-test.false in
    all_aborted c.loop-a.state c.loop-a.invariant.0 (journal_view_of c.args.state.now) c.loop-a.a
    c.loop-a.invariant.1 (omega (arith, e, n, past))

pub returns-in_err-abort-clause-left : goal.returns-in_err-abort-clause-left
returns-in_err-abort-clause-left c =
    let v = c.loop-a.invariant in
    on_err c.from_residual.result
    (λ none. some_left c.loop-a.state v.0 (journal_view_of c.args.state.now) c.loop-a.a v.1
    (sym c.is_live.ensures ∙ c.if-is_live.true)
    (ap live_topactions (sym c.in_err-abort.ensures.answered.err) ∙ none))

pub returns-clause-quiet : goal.returns-clause-quiet
returns-clause-quiet c =
    let e = c.len-a-end.ensures in
    let n = next_at c.args.state.now c.requires in
    let past = c.loop-a-test.false in
    all_quiet c.loop-a.state c.loop-a.invariant.0 (journal_view_of c.args.state.now) c.loop-a.a
    c.loop-a.invariant.1 (omega (arith, e, n, past))
