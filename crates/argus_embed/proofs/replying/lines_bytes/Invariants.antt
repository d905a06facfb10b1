-- So many lines are there.
use Rattle.std.proofs.Common.{map, string_bytes, take, ◌≡◌}
use Rattle.argus_embed.specs.Embedded.{reply_lines}
use Rattle.argus_journal.specs.Reply.{plain_reply}
use Rattle.argus_embed.proofs.replying.lines_bytes.Given as goal

abbrev pub invariant-loop-reply : goal.invariant-loop-reply
invariant-loop-reply l = string_bytes l.text ≡ reply_lines (map plain_reply (take l.reply-index l.replies))
