use Rattle.std.proofs.Common.{ap, take, ◌++◌, ◌∙◌, ◌≡◌}
use Rattle.argus_guardian.specs.JournalText.{journal_text}
use Rattle.argus_journal.specs.JournalView.{JournalView}
use Rattle.argus_embed.specs.{Embedded.EmbeddedState, Kept.kept_text}
use Rattle.argus_embed.proofs.Told.{told_end, told_same}
use Rattle.argus_embed.proofs.embedded.Embedded.resume.Goals as goal

pub returns : goal.returns
returns c =
    let now = c.args.self.now in
    let ends = c.text_end-end.ensures in
    let seen_journal = ap (λ (s : EmbeddedState). s.journal) c.self.view_is in
    let seen_text = ap (λ (s : EmbeddedState). s.text) c.self.view_is in
    let seen_taken = ap (λ (s : EmbeddedState). s.taken) c.self.view_is in
    let journal : c.self.inside.guardian ≡ now.journal = cc in
    let text : kept_text c.self.inside.kept ≡ now.text = cc in
    let was : c.self.inside.taken ≡ now.taken = cc in
    let same = told_same c.take-bytes.result.end _ c.text_end-end.new.self c.text_end-end.result ends in record {
      within = c.take-bytes.ensures.within;
      longer = ap (λ (j : JournalView). journal_text j) same.0 ∙ c.take-bytes.ensures.text
          ∙ ap (λ (j : JournalView). journal_text j ++ take c.take-bytes.result.bytes c.args.text.now) was;
      lines = c.take-bytes.ensures.lines;
      end = told_end c.take-bytes.result.end now _ c.text_end-end.new.self _ c.text_end-end.result ends
          c.take-bytes.ensures.end text;
      readable = c.taken_is_readable.ensures;
      held = same.1 ∙ journal;
    }
