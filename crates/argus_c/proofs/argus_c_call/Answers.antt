-- What isn't read as a call has a status of an error.
use Rattle.std.proofs.Common.{rules}
use Rattle.argus_c.proofs.argus_c_call.Goals.{in-Err, in-Ok-call}
use Rattle.argus_c.proofs.argus_c_call.Goals as goal

-- A status from 10 on is that of an error; those of outcomes are below.
pub returns-clause-unread : goal.returns-clause-unread
returns-clause-unread c = elim c.match-call.branch [
  | in-Ok-call w ↦ search rules
  | in-Err w ↦ λ above other another. (w.in-Err.error, search rules, search rules)
]
