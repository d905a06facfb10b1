use Rattle.argus_store.proofs.Durability.{durable, found_again}
use Rattle.argus_store.proofs.laws.acknowledged_is_durable.Goals as goal

pub returns-clause-durable : goal.returns-clause-durable
returns-clause-durable c = durable c.listings_are_resumed.ensures

pub returns-clause-found : goal.returns-clause-found
returns-clause-found c = found_again c.listings_are_resumed.ensures
