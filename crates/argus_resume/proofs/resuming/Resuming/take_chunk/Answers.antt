-- No line ends in the chunk.
use Rattle.std.proofs.Common.{sym, ◌∙◌}
use Rattle.argus_resume.proofs.Feeds.{no_feed-append, none_there, not_some}
use Rattle.argus_resume.proofs.resuming.Resuming.take_chunk.Goals as goal

pub returns-then-is_none-clause-end : goal.returns-then-is_none-clause-end
returns-then-is_none-clause-end c = (
  rw c.if-is_err.ensures.negation at c.extend_from_slice.ensures.items,
  no_feed-append c.args.pending.now.items c.args.chunk.now c.requires
      (none_there c.args.chunk.now (sym c.line_length.ensures ∙ not_some c.line_length.result c.if-is_none.ensures)),
)
