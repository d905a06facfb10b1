use Rattle.sqlite.specs.Held.{state}
use Rattle.argus_store.proofs.{Durability.{commit_made, left}, Logs.settled}
use Rattle.argus_store.proofs.laws.kept_takes_steps.Goals as goal

pub returns-clause-commits : goal.returns-clause-commits
returns-clause-commits g c old now acknowledged action j =
    commit_made g.S.Store old acknowledged action j now

pub returns-clause-stays : goal.returns-clause-stays
returns-clause-stays g c k j was db may =
    settled (state g.S.Store k.store) j (λ db left. g.met.S.Store.settled k.store.store db was.log.is_open left)
    was.log db may

pub returns-clause-crashes : goal.returns-clause-crashes
returns-clause-crashes g c old acknowledged action j store = left g.S.Store old acknowledged action j store
