use Rattle.std.proofs.Common.{ap, refl, take, ◌∙◌}
use Rattle.argus_embed.proofs.{JournalLines.lines_put, KeptObjects.count_read}
use Rattle.argus_embed.proofs.embedded.Embedded.lines.Goals as goal

pub returns-clause-lines : goal.returns-clause-lines
returns-clause-lines c =
    let journal = c.self.inside.guardian in
    let f = c.in_ok-fitting.fitting in
    let next = count_read journal _ _ (c.journal-journal.ensures.opening ∙ c.journal.ensures.opening)
    (c.journal-journal.ensures.entries ∙ c.journal.ensures.entries) c.len-next.result c.len-next.ensures in
    rw (← c.self.view_is)
    (lines_put journal c.args.from c.len-next.result _ f c.args.room.now c.put-size.new.room _ c.put-size.result next
    refl c.in_ok-fitting.ensures c.if-count-eq0.false (ap (λ l. take f.size l) c.as_bytes-text.ensures.value)
    c.put-size.ensures.size c.put-size.ensures.put)
