-- How many names a list has.
use Rattle.std.proofs.Common.{refl, ◌∙◌}
use Rattle.argus_contents.proofs.Types.{length-names, empty_names}
use Rattle.argus_contents.proofs.shaping.holds_of.Goals as goal

pub returns-in-None : goal.returns-in-None
returns-in-None c = rw (c.in-None.is) (c.is_empty.ensures ∙ empty_names c.args.fields.now)

pub returns-in-TooMany : goal.returns-in-TooMany
returns-in-TooMany c = rw (c.in-TooMany.is, length-names c.args.fields.now) refl
