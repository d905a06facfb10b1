-- The journal answers a test for writing by a refusal, or by whether the lock could be had.
use Rattle.std.proofs.Common.{sym, ◌∙◌}
use Rattle.argus_core.proofs.{Told.{granted_where, not_granted}, Accesses.access_refused, Tests.{writes, test_right}}
use Rattle.argus_core.proofs.Tests.{tests}
use Rattle.argus_core.proofs.guardian.Guardian.can_write.Goals as goal

pub returns-in-Some : goal.returns-in-Some
returns-in-Some c =
    let g = c.self.inside.state in
    rw (← c.self.view_is)
    (not_granted _ c.in-Some.field-0 (access_refused (tests (writes g c.self.invariant c.args.a c.args.o))
    c.in-Some.field-0 (sym (rw (c.as_slice.ensures.value) at c.test_refusal.ensures) ∙ c.in-Some.is)))

pub returns-in-None : goal.returns-in-None
returns-in-None c =
    let g = c.self.inside.state in
    rw (← c.self.view_is)
    (granted_where _ c.is_writable.result (test_right (writes g c.self.invariant c.args.a c.args.o)
    (sym (rw (c.as_slice.ensures.value) at c.test_refusal.ensures) ∙ c.in-None.is) c.is_writable.result
    (rw (c.as_slice-in-None.ensures.value) at c.is_writable.ensures)))
