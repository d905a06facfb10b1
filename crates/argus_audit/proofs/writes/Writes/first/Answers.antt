-- The object's head.
use Rattle.std.{proofs.Common.{ap, sym, ◌∙◌}, specs.Prelude.slice_get}
use Rattle.argus_audit.proofs.writes.Writes.first.Goals as goal

pub returns-in-Some : goal.returns-in-Some
returns-in-Some c =
    c.requires.0 c.args.o.0 c.in-Some.place
    (ap (λ heads. slice_get heads c.args.o.0) (sym c.as_slice.ensures.value) ∙ sym c.in-Some.ensures)
