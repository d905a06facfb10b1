-- The arrow, or the reply behind it, stops.
use Rattle.std.specs.Prelude.{codes}
use Rattle.argus_reading.specs.Replies.{Replies}
use Rattle.argus_entries.specs.Reply.{answered}
use Rattle.argus_contents.specs.Answer.{done}
use Rattle.argus_reading.proofs.{Words.{word_lacks, word_ends}, Lacks.passed_on}
use Rattle.argus_reading.proofs.entry_reading.answered.Goals as goal

pub returns-in_err-rest-clause-stops : goal.returns-in_err-rest-clause-stops
returns-in_err-rest-clause-stops c =
    passed_on c.from_residual.result c.in_err-rest.field-0.0 _ _ c.from_residual.ensures.1
    (λ left s. word_lacks (codes "-> ") Replies (answered done) tt s) c.in_err-rest.ensures.stops

pub returns-in_err-reply-clause-stops : goal.returns-in_err-reply-clause-stops
returns-in_err-reply-clause-stops c =
    passed_on c.from_residual-in_err-reply.result c.in_err-reply.field-0.0 _ _ c.from_residual-in_err-reply.ensures.1
    (λ left s. word_ends (codes "-> ") Replies c.in_ok-rest.ensures.read s) c.in_err-reply.ensures.stops
