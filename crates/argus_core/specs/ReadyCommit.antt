-- A prepared commit, and what a call adds to the effects.
use Rattle.std.specs.{Coded.{Coded, code_by, coded_ℕ, coded×}, Prelude.{List, Option, refl, ℕ}}
use Rattle.argus_contents.specs.Content.{PlainContent}
use Rattle.argus_entries.specs.Call.{PlainCall}
use Rattle.argus_journal.specs.{Effects.added_by, Events.happens}
use Rattle.argus_journal.specs.JournalView.{JournalView, entry_of, journal_view_coded}

-- the journal before the commit, and the action that will commit
pub record Committing : Type 0 where
  pub journal : JournalView
  pub action : ℕ

-- both are stored
abbrev pub committing_coded : Coded Committing
committing_coded =
    code_by (JournalView × ℕ) (coded× journal_view_coded coded_ℕ) (λ c. (c.journal, c.action))
    (λ p. record { journal = p.0; action = p.1 }) (λ _. refl)

-- what one more call adds to the effects: a topaction's commit adds its effect, everything else
-- adds nothing
abbrev pub added_by_call : JournalView → PlainCall → List (List (ℕ × Option PlainContent))
added_by_call journal call =
    added_by journal.opening (happens journal.opening
    (entry_of journal call) journal.entries) journal.entries
