-- The next object on the list stands as it was, since none is listed twice, and then is settled.
use Rattle.std.proofs.Common.{rules}
use Rattle.argus_core.proofs.Changes.{is_within, lawful_yet, more_changed}
use Rattle.argus_core.proofs.engine.moving.settle_all.Goals as goal

pub bounds-objects-o : goal.bounds-objects-o
bounds-objects-o c =
    is_within c.requires.ready c.loop-o.o-index (record { 0 = 0 }) _ c.loop-o-test.true c.loop-o.invariant

pub settle_top-requires-clause-lawful : goal.settle_top-requires-clause-lawful
settle_top-requires-clause-lawful c =
    lawful_yet c.requires.ready _ c.loop-o.o-index (record { 0 = 0 }) _ c.index-objects-o.result c.loop-o-test.true
    c.loop-o.invariant

pub loop-o-preserved : goal.loop-o-preserved
loop-o-preserved c =
    more_changed c.requires.ready _ c.loop-o.o-index (record { 0 = 0 }) _ c.index-objects-o.result c.loop-o-test.true
    c.loop-o.invariant c.settle_top.new.self (search rules)
