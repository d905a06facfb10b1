-- A test holds in a struct or a oneof as it holds in its list.
use Rattle.argus_contents.proofs.Levels.{plain_ty-Fields, plain_ty-Choice}
use Rattle.argus_contents.proofs.shaping.+holds.Goals as goal

pub holds_in_ty-returns-in-Fields : goal.holds_in_ty-returns-in-Fields
holds_in_ty-returns-in-Fields t c =
    rw (c.in-Fields.is, plain_ty-Fields c.in-Fields.fields, ← c.deref-in-Fields.ensures.value) c.holds_in_list.ensures

pub holds_in_ty-returns-in-Choice : goal.holds_in_ty-returns-in-Choice
holds_in_ty-returns-in-Choice t c =
    rw (c.in-Choice.is, plain_ty-Choice c.in-Choice.tags, ← c.deref-in-Choice.ensures.value)
    c.holds_in_list-in-Choice.ensures
