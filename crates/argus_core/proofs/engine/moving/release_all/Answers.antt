-- The next object on the list stands as it was, since none is listed twice, and then the action holds nothing in it.
use Rattle.std.proofs.Common.{rules}
use Rattle.argus_core.proofs.Changes.{is_within, lawful_yet, more_changed}
use Rattle.argus_core.proofs.engine.moving.release_all.Goals as goal

pub bounds-objects-o : goal.bounds-objects-o
bounds-objects-o c =
    is_within c.requires c.loop-o.o-index (record { 0 = 0 }) _ c.loop-o-test.true c.loop-o.invariant

pub release-requires : goal.release-requires
release-requires c = record {
  lawful =
      lawful_yet c.requires _ c.loop-o.o-index (record { 0 = 0 }) _ c.index-objects-o.result c.loop-o-test.true
      c.loop-o.invariant;
}

pub loop-o-preserved : goal.loop-o-preserved
loop-o-preserved c =
    more_changed c.requires _ c.loop-o.o-index (record { 0 = 0 }) _ c.index-objects-o.result c.loop-o-test.true
    c.loop-o.invariant c.release.new.self (search rules)
