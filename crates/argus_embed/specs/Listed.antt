-- The listing of a guardian that a host holds can be taken again, by this guardian or by another one.
use Rattle.std.specs.Prelude.{List, [], ℕ, ◌++◌, ◌≡◌, ◌≢◌, ◌⊎◌}
use Rattle.argus_guardian.specs.{JournalText.{IsEmptyOrReadable, journal_text}, ReadableCalls.HaveReadableCalls}
use Rattle.argus_journal.specs.JournalView.{JournalView}
use Rattle.argus_embed.specs.{Embedded.EmbeddedState, Resuming.{IsTextTaken, after_resumption}}
use Rattle.argus_embed.specs.{declared.text_end.TextEnd.TextEnd, declared.text_taken.TextTaken.TextTaken}
use Rattle.argus_embed.specs.declared.text_end.TextEnd.TheVariants as text_end

-- the opening of the journal can be read, and so can each of its calls
pub record CanBeRead (journal : JournalView) : Type 0 where
  pub opening : IsEmptyOrReadable journal.opening
  pub calls : HaveReadableCalls journal.entries

-- no line of the text is at fault
abbrev pub IsNoFault : TextEnd → Type 0
IsNoFault end = (end ≡ text_end.Whole) ⊎ (end ≡ text_end.Torn)

-- all of the text was taken, and the guardian that is made of it has the journal
pub record IsWhole (journal : JournalView) (end : TextEnd) (new : EmbeddedState) : Type 0 where
  pub whole : end ≡ text_end.Whole
  pub taken : new.taken ≡ journal
  pub resumed : (after_resumption new).journal ≡ journal

-- The listing of the journal is taken back, in whatever pieces it comes: no line of a piece at its
-- place is at fault, and where no piece comes after it, the guardian that is made has the journal.
-- Given memory.
abbrev pub IsTakenBack : JournalView → Type 0
IsTakenBack journal =
    (old new : EmbeddedState) (piece rest : List ℕ) (taken : TextTaken)
    → journal_text journal ≡ journal_text old.taken ++ (piece ++ rest)
    → IsTextTaken old new piece taken → taken.end ≢ text_end.OutOfMemory
    → IsNoFault taken.end × (rest ≡ [] → IsWhole journal taken.end new)
