use Rattle.std.proofs.Common.{pos}
use Rattle.sqlite.specs.Held.{state}
use Rattle.argus_store.specs.{Journal.{Journal, new_journal}, End.end_of_new, Store.HasLog}
use Rattle.argus_store.proofs.Logs.{settled}
use Rattle.argus_store.proofs.store.Store.create.Goals as goal

pub returns-then-branch-clause-durable : goal.returns-then-branch-clause-durable
returns-then-branch-clause-durable g c clean =
    let new = state g.S.Store c.make.new.conn in
    let j : Journal = new_journal c.args.name.now c.args.version.now (pos (end_of_new c.args.name.now).sum) in
    let has : HasLog new j = rw c.of_new.ensures at (c.in_ok-make.ensures.made clean c.if-branch.true) in
    settled new j (λ db left. g.met.S.Store.settled c.make.new.conn.store db has.is_open left) has
