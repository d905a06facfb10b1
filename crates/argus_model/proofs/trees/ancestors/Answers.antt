-- The proof of the laws that stand on `ancestors`.
use Rattle.argus_model.proofs.{Ancestors.ancestor_self, Owner.base_above, Siblings.creator_older}
use Rattle.argus_model.proofs.Theorems.{ancestor_above, ancestor_live, ancestor_older, live_alone}
use Rattle.argus_model.proofs.trees.ancestors.Goals as goal

pub returns : goal.returns
returns g c = record {
  own = ancestor_self;
  base = base_above;
  above = ancestor_above;
  older = ancestor_older;
  live = ancestor_live;
  creator = creator_older;
  alone = live_alone;
}
