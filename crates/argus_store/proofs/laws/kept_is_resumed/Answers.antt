use Rattle.argus_store.proofs.laws.kept_is_resumed.Goals as goal

pub returns : goal.returns
returns c j journal has failed resumed same listable is memory reads =
    (c.listings_are_resumed.ensures has failed resumed journal listable (rw same at is) memory reads).1
