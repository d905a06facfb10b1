use Rattle.std.proofs.lemmas.Result.{IfOk-weaker, IfErr-weaker}
use Rattle.sqlite.specs.Held.{state}
use Rattle.argus_store.proofs.ReadBack.{reads_opening, kept_by_reading, kept_at_fault}
use Rattle.argus_store.proofs.Statements.{opening_text, opening_is}
use Rattle.argus_store.proofs.store.Store.opening.Goals as goal

pub returns-clause-all : goal.returns-clause-all
returns-clause-all g c j was clean =
    IfOk-weaker c.query_all.result _ _ (λ rows h. reads_opening (state g.S.Store c.args.self.now)
    (state g.S.Store c.query_all.new.self) j rows.items was.schema was.holds h)
    (rw c.self.view_is at (c.query_all.ensures.ok clean))

pub returns-clause-kept : goal.returns-clause-kept
returns-clause-kept g c j was clean =
    IfOk-weaker c.query_all.result _ _ (λ rows h. kept_by_reading (state g.S.Store c.args.self.now)
    (state g.S.Store c.query_all.new.self) j was opening_text opening_is.0.1 rows.items h)
    (rw c.self.view_is at (c.query_all.ensures.ok clean))

pub returns-clause-failed : goal.returns-clause-failed
returns-clause-failed g c j was clean is_open =
    IfErr-weaker c.query_all.result _ _ (λ e h. kept_at_fault (state g.S.Store c.args.self.now)
    (state g.S.Store c.query_all.new.self) j was opening_text opening_is.0.1 e h is_open)
    (rw c.self.view_is at (c.query_all.ensures.err clean))
