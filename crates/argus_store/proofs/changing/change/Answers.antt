use Rattle.std.proofs.Common.{◌≡◌, true, false, ap, None, Ok, rules}
use Rattle.argus_store.proofs.Transaction.{commits, fails, fails_to_commit, refuses, stays}
use Rattle.argus_store.proofs.changing.change.Goals as goal

-- nothing was done

pub returns-in_default-clause-changes : goal.returns-in_default-clause-changes
returns-in_default-clause-changes g c j was _ =
    let none : c.end_with.result ≡ None = search rules in
    stays g.S.Store g.met.S.Store.settled c.args.change j c.args.name.now c.args.end c.args.lines.now c.args.conn.now
    was (c.end_with.ensures.none none)

-- the transaction was rolled back

pub returns-in_err-run-clause-changes : goal.returns-in_err-run-clause-changes
returns-in_err-run-clause-changes g c j was =
    let end : c.drop-tx.new.self.0 ≡ c.conn-1.given.0 = search rules in
    rw end at (fails g.S.Store g.met.S.Store.settled c.args.change j c.args.name.now c.args.end c.args.lines.now
    c.args.conn.now was c.transaction-tx.result.conn.now c.run.new.tx.conn.now c.drop-tx.new.self.0
    c.transaction-tx.ensures.begun c.run.result c.run.ensures.ran c.from_residual.result c.from_residual.ensures.0
    c.drop-tx.ensures.survives c.drop-tx.ensures.undone)

pub returns-then-not-branch-clause-changes : goal.returns-then-not-branch-clause-changes
returns-then-not-branch-clause-changes g c j was =
    let done : c.in_ok-run.field-0 ≡ false = search rules in
    let end : c.drop-tx-then-not-branch.new.self.0 ≡ c.conn-then-not-branch-1.given.0 = search rules in
    rw end at (refuses g.S.Store g.met.S.Store.settled c.args.change j c.args.name.now c.args.end c.args.lines.now
    c.args.conn.now was c.transaction-tx.result.conn.now c.run.new.tx.conn.now c.drop-tx-then-not-branch.new.self.0
    c.transaction-tx.ensures.begun (Ok c.in_ok-run.field-0) c.in_ok-run.ensures.ran (ap Ok done)
    c.drop-tx-then-not-branch.ensures.survives c.drop-tx-then-not-branch.ensures.undone)

-- a commit was tried

pub returns-in_err-commit-clause-changes : goal.returns-in_err-commit-clause-changes
returns-in_err-commit-clause-changes g c j was =
    let done : c.in_ok-run.field-0 ≡ true = search rules in
    let end : c.commit.new.self.0 ≡ c.conn-2-1.given.0 = search rules in
    rw end at (fails_to_commit g.S.Store g.met.S.Store.settled c.args.change j c.args.name.now c.args.end
    c.args.lines.now c.args.conn.now was c.transaction-tx.result.conn.now c.run.new.tx.conn.now c.commit.new.self.0
    c.transaction-tx.ensures.begun (Ok c.in_ok-run.field-0) c.in_ok-run.ensures.ran (ap Ok done) _
    c.from_residual-in_err-commit.result c.from_residual-in_err-commit.ensures.0 c.commit.ensures.survives
    c.in_err-commit.ensures.err)

pub returns-clause-changes : goal.returns-clause-changes
returns-clause-changes g c j was =
    let done : c.in_ok-run.field-0 ≡ true = search rules in
    let end : c.commit.new.self.0 ≡ c.conn-2-1.given.0 = search rules in
    rw end at (commits g.S.Store g.met.S.Store.settled c.args.change j c.args.name.now c.args.end c.args.lines.now
    c.args.conn.now was c.transaction-tx.result.conn.now c.run.new.tx.conn.now c.commit.new.self.0
    c.transaction-tx.ensures.begun (Ok c.in_ok-run.field-0) c.in_ok-run.ensures.ran (ap Ok done) c.in-Some.after
    c.in-Some.ensures.some.1 c.commit.ensures.survives (λ clean. (c.in_ok-commit.ensures.ok clean).1))
