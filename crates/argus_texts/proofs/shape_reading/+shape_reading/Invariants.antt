-- How far down the calls go, and what was read so far.
use Rattle.std.proofs.Common.{◌+◌, ◌-◌, ◌*◌, map}
use Rattle.std.specs.Str.{IsUtf8}
use Rattle.argus_contents.specs.{Ty.plain_field, declared.limits.TheConstants.MAX_NAMES}
use Rattle.argus_texts.specs.{Language.Starts, ShapeLanguages.{IsList, Lists}}
use Rattle.argus_texts.proofs.ShapeParts.{Going}
use Rattle.argus_texts.proofs.shape_reading.+shape_reading.Given as goal

abbrev pub decreases-compound : goal.decreases-compound
decreases-compound l = 5 * l.levels + 1

abbrev pub decreases-one_ty : goal.decreases-one_ty
decreases-one_ty l = 5 * l.levels + 2

abbrev pub decreases-closed_ty : goal.decreases-closed_ty
decreases-closed_ty l = 5 * l.levels + 3

abbrev pub decreases-field : goal.decreases-field
decreases-field l = 5 * l.levels + 3

abbrev pub decreases-names : goal.decreases-names
decreases-names l = 5 * l.levels + 4

-- what was read, and that a list at the front goes on with what is left
abbrev pub invariant-names-loop : goal.invariant-names-loop
invariant-names-loop l = record {
  read : Going l.fn.text l.rest (map plain_field l.names.items);
  left : Starts (Lists (IsList MAX_NAMES l.levels)) l.fn.text
      → Starts (Lists (IsList (MAX_NAMES - l.counter) l.levels)) l.rest;
  utf8 : IsUtf8 l.rest;
}
