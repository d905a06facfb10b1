-- The place was appended behind its word.
use Rattle.argus_entries.proofs.entry_writing.append_call.Goals as goal

pub returns-in-TestWrite-clause-written : goal.returns-in-TestWrite-clause-written
returns-in-TestWrite-clause-written c = rw c.in-TestWrite.is c.append_place-in-TestWrite.ensures.written
