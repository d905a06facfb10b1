-- The entries from the next place on are linked, at last all.
use Rattle.std.proofs.Common.{arith, reverse, subst, ◌+◌, ◌-◌, ◌≡◌}
use Rattle.argus_audit.specs.Writes.{AreHeads}
use Rattle.argus_journal.specs.Journal.{entries_of}
use Rattle.argus_audit.proofs.writes.link.Goals as goal

pub link_entry-requires-clause-heads : goal.link_entry-requires-clause-heads
link_entry-requires-clause-heads c =
    let same : c.loop-place.place ≡ c.loop-place.place - 1 + 1 = omega (arith, c.loop-place-test.true) in
    subst (λ k. AreHeads (reverse (entries_of c.args.journal.now)) k c.loop-place.first) same
    c.loop-place.invariant.heads

pub returns-clause-heads : goal.returns-clause-heads
returns-clause-heads c =
    let end : c.loop-place.place ≡ 0 = omega (arith, c.loop-place-test.false) in
    subst (λ k. AreHeads (reverse (entries_of c.args.journal.now)) k c.loop-place.first) end
    c.loop-place.invariant.heads
