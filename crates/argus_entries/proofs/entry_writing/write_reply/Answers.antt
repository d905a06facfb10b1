-- A text that grew may be cut back.
use Rattle.std.proofs.Common.{rules}
use Rattle.argus_texts.proofs.Grown.{cut_back}
use Rattle.argus_entries.proofs.entry_writing.write_reply.Goals as goal

pub truncate-requires : goal.truncate-requires
truncate-requires c = λ h. let n = cut_back c.args.out.now c.append_reply-result.new.out c.len-start.result
    c.len-start.ensures c.append_reply-result.ensures.grew in (n.0, λ z. n.1)

pub returns-else-is_err-clause-written : goal.returns-else-is_err-clause-written
returns-else-is_err-clause-written c = search rules
