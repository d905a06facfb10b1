-- The field wasn't met yet.
use Rattle.std.proofs.Common.{◌≡◌, drop}
use Rattle.argus_contents.specs.{Shape.names_of, Ty.plain_fields}
use Rattle.argus_language.specs.Fields.{place_from}
use Rattle.argus_language.proofs.fields.field_place.Given as goal

abbrev pub invariant-loop-i : goal.invariant-loop-i
invariant-loop-i l = place_from 0 l.name (names_of (plain_fields l.fields))
    ≡ place_from l.i l.name (names_of (plain_fields (drop l.i l.fields)))
