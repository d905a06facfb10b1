-- What is left of the types decides whether all are within the depth, and what is left of the names
-- whether all have a name's form.
use Rattle.std.proofs.Common.{◌≡◌, drop, nat_le}
use Rattle.argus_contents.specs.{Shape.{AreNamed, deepest_of}, Ty.plain_fields}
use Rattle.argus_contents.proofs.shaping.+within.Given as goal

abbrev pub invariant-are_within-loop-name : goal.invariant-are_within-loop-name
invariant-are_within-loop-name l = record {
  depth : nat_le (deepest_of (plain_fields l.fields)) l.levels
      ≡ nat_le (deepest_of (plain_fields (drop l.name-index l.fields))) l.levels;
  named : AreNamed (plain_fields (drop l.name-index l.fields)) → AreNamed (plain_fields l.fields);
}
