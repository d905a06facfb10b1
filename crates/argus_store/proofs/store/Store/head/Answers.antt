-- The row that is read is the log's, which stays as it is.
use Rattle.std.proofs.Common.{[], ◌∷◌, ◌≡◌, ◌∙◌}
use Rattle.sqlite.specs.Held.{state}
use Rattle.argus_store.specs.Journal.{shown_end}
use Rattle.argus_store.proofs.ReadBack.{reads_end, kept_by_reading, kept_at_fault, at_ok, at_fault}
use Rattle.argus_store.proofs.Statements.{end_text, end_is}
use Rattle.argus_store.proofs.store.Store.head.Goals as goal

pub returns-clause-found : goal.returns-clause-found
returns-clause-found g c j was clean =
    let rows : c.in_ok-rows.rows.items ≡ shown_end j ∷ [] = reads_end (state g.S.Store c.args.self.now)
    (state g.S.Store c.query_all.new.self) j c.in_ok-rows.rows.items was.schema was.holds
    (rw c.self.view_is at (c.in_ok-rows.ensures.ok clean)) in
    c.head_in.ensures.found j (c.as_slice.ensures.value ∙ rows)

pub returns-clause-open : goal.returns-clause-open
returns-clause-open g c j was clean =
    let rows : c.in_ok-rows.rows.items ≡ shown_end j ∷ [] = reads_end (state g.S.Store c.args.self.now)
    (state g.S.Store c.query_all.new.self) j c.in_ok-rows.rows.items was.schema was.holds
    (rw c.self.view_is at (c.in_ok-rows.ensures.ok clean)) in
    c.head_in.ensures.open j (c.as_slice.ensures.value ∙ rows)

pub returns-clause-kept : goal.returns-clause-kept
returns-clause-kept g c j was clean = at_ok c.head_in.result (kept_by_reading (state g.S.Store c.args.self.now)
    (state g.S.Store c.query_all.new.self) j was end_text end_is.0.1 c.in_ok-rows.rows.items
    (rw c.self.view_is at (c.in_ok-rows.ensures.ok clean)))

pub returns-clause-failed : goal.returns-clause-failed
returns-clause-failed g c j was clean is_open = at_fault c.head_in.result (kept_by_reading
    (state g.S.Store c.args.self.now) (state g.S.Store c.query_all.new.self) j was end_text end_is.0.1
    c.in_ok-rows.rows.items (rw c.self.view_is at (c.in_ok-rows.ensures.ok clean)))

pub returns-in_err-rows-clause-failed : goal.returns-in_err-rows-clause-failed
returns-in_err-rows-clause-failed g c j was clean is_open = at_fault c.from_residual.result (kept_at_fault
    (state g.S.Store c.args.self.now) (state g.S.Store c.query_all.new.self) j was end_text end_is.0.1
    c.in_err-rows.field-0.0 (rw c.self.view_is at (c.in_err-rows.ensures.err clean)) is_open)
