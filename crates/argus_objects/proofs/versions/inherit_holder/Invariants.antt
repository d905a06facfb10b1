-- The versions so far are handed over.
use Rattle.std.proofs.Common.{◌≡◌, map}
use Rattle.argus_objects.{specs.Object.plain_version, proofs.Stacks.handed_to}
use Rattle.argus_objects.proofs.versions.inherit_holder.Given as goal

abbrev pub invariant-loop-version : goal.invariant-loop-version
invariant-loop-version l =
    map plain_version l.versions ≡ handed_to l.s l.parent (map plain_version l.initial.versions) l.version-index
