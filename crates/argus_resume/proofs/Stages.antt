-- How a stage advances by a line.
use Rattle.std.proofs.Common.{◌≡◌, List, [], ◌∷◌, length, refl, ap, arith, true, false, cond}
use Rattle.std.specs.Prelude.{OnOk, Result}
use Rattle.argus_entries.specs.Entry.{PlainEntry}
use Rattle.argus_journal.specs.{JournalView.{JournalView, next_entry}, Opening.is_sound}
use Rattle.argus_resume.specs.{JournalText.journal_text, SoundFront.sound_front, Stage.taken_by}
use Rattle.argus_resume.specs.{declared.entry_lines.EntryLines.EntryLines, Without.without_newest}
use Rattle.argus_resume.proofs.Sound.{sound_whole}

none_of : (j : List PlainEntry) → length j ≡ 0 → j ≡ []
none_of [] h = refl
none_of (e ∷ j) h = absurd (omega arith)

-- of no line there is no text
pub nothing_text : (journal : JournalView) → next_entry journal ≡ 0 → journal_text journal ≡ []
nothing_text journal h = grind (arith, none_of)

-- what holds after an Ok, from another fact that does
pub on_ok : {T E P Q : Type 0} (r : Result T E) → OnOk r P → (P → Q) → OnOk r Q
on_ok q p f = grind arith

-- of a guardian that isn't ahead its journal was taken
pub level_taken : (entries : EntryLines) → entries.is_ahead ≡ false → taken_by entries ≡ entries.guardian
level_taken entries h = ap (λ b. cond b (without_newest entries.guardian) entries.guardian) h

-- a journal whose opening is sound is its own sound front
pub front_same : (journal : JournalView) → is_sound journal.opening ≡ true → sound_front journal ≡ journal
front_same journal h = grind (arith, sound_whole)
