-- What was let go of an opening, and that a legal journal's opening is sound.
use Rattle.std.proofs.Common.{ap, inr, length, subst, sym, true, ◌∙◌, ◌≡◌}
use Rattle.argus_journal.specs.{JournalView.JournalView, Opening.is_sound}
use Rattle.argus_resume.specs.{JournalText.IsReadableJournal, SoundFront.sound_count}
use Rattle.argus_resume.specs.Stage.{IsCounted, StageInvariant, journal_taken, opened_alone, opening_read}
use Rattle.argus_resume.proofs.{Ends.front_taken, Listable.{taken_calls, taken_opening}, Readable.calls_of_readable}
use Rattle.argus_resume.proofs.Stages.{front_same, level_taken}
use Rattle.argus_resume.proofs.resuming.Resuming.into_guardian.Goals as goal

pub returns-in-Ok-clause-front : goal.returns-in-Ok-clause-front
returns-in-Ok-clause-front c =
    let s = opening_read c.in-Opening.lines in
    let counted : IsCounted c.in-Opening.lines = subst StageInvariant c.in-Opening.is c.self.invariant in
    let same : opened_alone s ≡ c.args.self = ap journal_taken (sym c.in-Opening.is) ∙ c.self.view_is in
    (front_taken s (sound_count s (length s.objects)) c.args.self c.in-Ok.opened.guardian c.in-Ok.opened.dropped
    counted.readable.some same c.in-Ok.ensures.guardian c.in-Ok.ensures.dropped).0

pub returns-in-Ok-clause-dropped : goal.returns-in-Ok-clause-dropped
returns-in-Ok-clause-dropped c =
    let s = opening_read c.in-Opening.lines in
    let counted : IsCounted c.in-Opening.lines = subst StageInvariant c.in-Opening.is c.self.invariant in
    let same : opened_alone s ≡ c.args.self = ap journal_taken (sym c.in-Opening.is) ∙ c.self.view_is in
    (front_taken s (sound_count s (length s.objects)) c.args.self c.in-Ok.opened.guardian c.in-Ok.opened.dropped
    counted.readable.some same c.in-Ok.ensures.guardian c.in-Ok.ensures.dropped).1

pub returns-in-Ok-come_back-clause-guardian : goal.returns-in-Ok-come_back-clause-guardian
returns-in-Ok-come_back-clause-guardian c = let same : c.come_back.new.self.guardian ≡ c.args.self =
    sym (level_taken c.come_back.new.self c.in-Ok-come_back.ensures.level) ∙ c.come_back.ensures.journal
    ∙ ap journal_taken (sym c.in-Entries.is) ∙ c.self.view_is in
    same ∙ sym (front_same c.args.self
    (subst (λ (j : JournalView). is_sound j.opening ≡ true) same c.journal_is_legal.ensures.sound))

pub guardians_are_listable-requires-clause-opening : goal.guardians_are_listable-requires-clause-opening
guardians_are_listable-requires-clause-opening c =
    let counted : IsCounted c.in-Opening.lines = subst StageInvariant c.in-Opening.is c.self.invariant in
    taken_opening (opened_alone (opening_read c.in-Opening.lines)) c.in-Ok.opened.guardian
    (record { opening = inr counted.readable; entries = tt }) c.in-Ok.ensures.guardian

pub guardians_are_listable-requires-clause-calls : goal.guardians_are_listable-requires-clause-calls
guardians_are_listable-requires-clause-calls c =
    let counted : IsCounted c.in-Opening.lines = subst StageInvariant c.in-Opening.is c.self.invariant in
    taken_calls (opened_alone (opening_read c.in-Opening.lines)) c.in-Ok.opened.guardian
    (record { opening = inr counted.readable; entries = tt }) c.in-Ok.ensures.guardian

-- A GUARDIAN WITH ENTRIES

pub guardians_are_listable-requires-in-Ok-come_back-clause-opening : goal.guardians_are_listable-requires-in-Ok-come_back-clause-opening
guardians_are_listable-requires-in-Ok-come_back-clause-opening c =
    let level = level_taken c.come_back.new.self c.in-Ok-come_back.ensures.level in
    (subst IsReadableJournal level c.come_back.ensures.kept.readable).opening

pub guardians_are_listable-requires-in-Ok-come_back-clause-calls : goal.guardians_are_listable-requires-in-Ok-come_back-clause-calls
guardians_are_listable-requires-in-Ok-come_back-clause-calls c =
    let level = level_taken c.come_back.new.self c.in-Ok-come_back.ensures.level in
    calls_of_readable c.come_back.new.self.guardian.entries
    (subst IsReadableJournal level c.come_back.ensures.kept.readable).entries
