use Rattle.std.proofs.Common.{ap, length, take, ◌+◌, ◌-◌, ◌∙◌, ◌≡◌}
use Rattle.argus_guardian.specs.JournalText.{journal_text}
use Rattle.argus_journal.specs.JournalView.{JournalView}
use Rattle.argus_embed.specs.Embedded.{EmbeddedState}
use Rattle.argus_embed.proofs.embedded.Embedded.resumed.Goals as goal

pub returns-in-Ok-clause-dropped : goal.returns-in-Ok-clause-dropped
returns-in-Ok-clause-dropped c =
    let seen = ap (λ (s : EmbeddedState). s.taken) c.self.view_is in
    let dropped = c.in-Ok.field-0.dropped in
    let is : c.replace-before.new.dest ≡ c.in-Ok.field-0.guardian = cc in
    let was : c.replace.result ≡ c.args.self.now.taken = cc in
    record {
      front = ap journal_text is ∙ c.in-Ok.ensures.front
          ∙ ap (λ (j : JournalView). take (length (journal_text j) - dropped) (journal_text j)) was;
      count = ap (λ (j : JournalView). dropped + length (journal_text j)) is ∙ c.in-Ok.ensures.dropped
          ∙ ap (λ (j : JournalView). length (journal_text j)) was;
    }
