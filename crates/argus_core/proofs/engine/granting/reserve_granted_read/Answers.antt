-- Room for a lock changes nothing that the journal speaks of.
use Rattle.std.proofs.{Common.arith, lemmas.List.with_items_is}
use Rattle.argus_core.proofs.{Accessed.kept_locks, FreeLocks.listed_held}
use Rattle.argus_journal.specs.LegalJournal.{entries_in, opening_in}
use Rattle.argus_core.proofs.engine.granting.reserve_granted_read.Goals as goal

pub reserve_read-requires-clause-listed : goal.reserve_read-requires-clause-listed
reserve_read-requires-clause-listed c =
    rw (c.as_mut_slice-objects.ensures.value)
    (listed_held c.args.state.now c.requires.kept c.args.a c.args.o c.requires.free.low)

pub returns-clause-kept : goal.returns-clause-kept
returns-clause-kept c =
    let p = c.args.state.now in
    let s = opening_in p.journal in
    let j = entries_in p.journal in
    let held = c.reserve_read.new.holdings in
    rw (with_items_is p.objects c.reserve_read.new.objects (omega arith), c.reserve.ensures.entries)
    (rw (c.reserve.ensures.opening)
    (kept_locks _ _ _ _ _ _ _ _ c.requires.kept
    (rw (c.as_mut_slice-objects.ensures.value) at c.reserve_read.ensures.same)))
