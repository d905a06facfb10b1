-- What isn't read as a call has a status of an error.
use Rattle.std.proofs.Common.{rules}
use Rattle.argus_c.proofs.parsing.argus_c_parse.Goals as goal

pub returns-in-Err-clause-unread : goal.returns-in-Err-clause-unread
returns-in-Err-clause-unread c = λ made closed bytes. (c.in-Err.error, search rules, search rules)
