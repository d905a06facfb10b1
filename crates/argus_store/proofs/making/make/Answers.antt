use Rattle.std.proofs.Common.{◌≡◌, pos, subst, rules}
use Rattle.sqlite.specs.{State.HasCleanDisk, Held.state}
use Rattle.argus_store.specs.{Tables.no_schema, Journal.new_journal, Store.HasLog}
use Rattle.argus_store.proofs.{Makes.makes, Logs.{has_log, was_clean}}
use Rattle.argus_store.proofs.making.make.Goals as goal

pub returns-clause-made : goal.returns-clause-made
returns-clause-made g c clean _ =
    let same : c.commit.new.self.0 ≡ c.conn-2-1.given.0 = search rules in
    let late : HasCleanDisk (state g.S.Store c.commit.new.self.0) = search rules in
    let clean_last = was_clean c.commit.ensures.survives late in
    let clean_fourth = was_clean c.begin.ensures.survives clean_last in
    let clean_third = was_clean c.execute-4.ensures.survives clean_fourth in
    let clean_second = was_clean c.execute-3.ensures.survives clean_third in
    let clean_first = was_clean c.execute-2.ensures.survives clean_second in
    let begun = c.transaction-tx.ensures.begun in
    let one = c.in_ok-execute.ensures.runs clean_first (rw begun) in
    let two = c.in_ok-execute-2.ensures.runs clean_second one.1.mode in
    let three = c.in_ok-execute-3.ensures.runs clean_third two.1.mode in
    let four = c.in_ok-execute-4.ensures.runs clean_fourth three.1.mode in
    let five = c.in_ok-begin.ensures.runs clean_last four.1.mode in
    let blank : c.transaction-tx.result.conn.now.schema ≡ no_schema = search rules in
    let made = makes _ _ _ _ _ _ c.args.name.now c.args.version.now (pos c.args.sum) (
      c.in_ok-execute.field-0,
      c.in_ok-execute-2.field-0,
      c.in_ok-execute-3.field-0,
      c.in_ok-execute-4.field-0,
      c.in_ok-begin.field-0,
    ) blank one.0 two.0 three.0 four.0 five.0 in
    let done = (c.in_ok-commit.ensures.ok late).1 in
    subst (λ h. HasLog (state g.S.Store h) (new_journal c.args.name.now c.args.version.now (pos c.args.sum))) same
    (has_log (state g.S.Store c.commit.new.self.0) _ (state g.S.Store c.begin.new.tx.conn.now).now made.0 made.1
    done.is_open done.mode done.now_is done.committed_is)
