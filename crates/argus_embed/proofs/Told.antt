-- The end of a text whose lines were taken, as the host gets it.
use Rattle.std.proofs.Common.{List, ap, subst, sym, ℕ, ◌∙◌, ◌≡◌}
use Rattle.argus_journal.specs.JournalView.{JournalView, next_entry}
use Rattle.argus_guardian.specs.{Taking.{EndsTaking, IsFaulty}, resume_declared.line_fault.LineFault.LineFault}
use Rattle.argus_guardian.specs.resume_declared.taken_end.TakenEnd.{TakenEnd}
use Rattle.argus_guardian.specs.resume_declared.line_fault.LineFault.TheVariants as fault
use Rattle.argus_guardian.specs.resume_declared.taken_end.TakenEnd.TheVariants as taken
use Rattle.argus_embed.specs.{Embedded.EmbeddedState, Resuming.{EndsText, IsEndOf}, declared.text_end.TextEnd.TextEnd}

-- neither what was taken nor the guardian changes
pub told_same : (end : TakenEnd) (old new : EmbeddedState) (told : TextEnd) → EndsText end old new told
    → (new.taken ≡ old.taken) × (new.journal ≡ old.journal)
told_same (taken.Fault (fault.NoText at)) old new told ends =
    (ap (λ (s : EmbeddedState). s.taken) ends.1, ap (λ (s : EmbeddedState). s.journal) ends.1)
told_same _ old new told ends =
    (ap (λ (s : EmbeddedState). s.taken) ends.1, ap (λ (s : EmbeddedState). s.journal) ends.1)

-- the line is at fault behind the same journal
pub fault_told : (f : LineFault) (old new : EmbeddedState) (left : List ℕ) → new.taken ≡ old.taken
    → IsFaulty old.taken left f → IsFaulty new.taken left f
fault_told f old new left same faulty = subst (λ (j : JournalView). IsFaulty j left f) (sym same) faulty

-- the end says what it does of the bytes that are left, and of the text that is kept
pub told_end : (end : TakenEnd) (before old new : EmbeddedState) (left : List ℕ) (told : TextEnd)
    → EndsText end old new told → EndsTaking end old.taken left → old.text ≡ before.text → IsEndOf told before new left
told_end (taken.Fault fault.NotNext) before old new left told ends has text =
    subst (λ (t : TextEnd). IsEndOf t before new left) (sym ends.0) (
      record {
        faulty = fault_told fault.NotNext old new left (ap (λ (s : EmbeddedState). s.taken) ends.1) has;
        next = ap (λ (s : EmbeddedState). next_entry s.taken) (sym ends.1);
      },
      ap (λ (s : EmbeddedState). s.text) ends.1 ∙ text,
    )
told_end (taken.Fault (fault.NotTheReply reply)) before old new left told ends has text =
    subst (λ (t : TextEnd). IsEndOf t before new left) (sym ends.0) (record {
      reply = reply;
      faulty = fault_told (fault.NotTheReply reply) old new left (ap (λ (s : EmbeddedState). s.taken) ends.1) has;
      kept = ap (λ (s : EmbeddedState). s.text) ends.1;
    })
told_end (taken.Fault f) before old new left told ends has text =
    subst (λ (t : TextEnd). IsEndOf t before new left) (sym ends.0) (
      fault_told f old new left (ap (λ (s : EmbeddedState). s.taken) ends.1) has,
      ap (λ (s : EmbeddedState). s.text) ends.1 ∙ text,
    )
told_end taken.OutOfMemory before old new left told ends has text =
    subst (λ (t : TextEnd). IsEndOf t before new left) (sym ends.0) (ap (λ (s : EmbeddedState). s.text) ends.1 ∙ text)
told_end _ before old new left told ends has text =
    subst (λ (t : TextEnd). IsEndOf t before new left) (sym ends.0)
    (has, ap (λ (s : EmbeddedState). s.text) ends.1 ∙ text)
