-- A run that stops before its end.
use Rattle.std.specs.Prelude.{Bool, List, OnErr, Result, true, ◌≡◌, [], ◌∷◌}
use Rattle.argus_entries.specs.Entry.{PlainEntry}
use Rattle.argus_journal.specs.JournalView.{JournalView, with_entry}
use Rattle.argus_runs.specs.RunOutcome.{RunOutcome, finished, mismatched}

-- the journal with these entries after it, the oldest first
abbrev pub extended : JournalView → List PlainEntry → JournalView
extended j [] = j
extended j (e ∷ es) = extended (with_entry j e) es

-- the journal is the other, or a prefix of it
abbrev pub IsJournalPrefix : JournalView → JournalView → Type 0
IsJournalPrefix j k = (made : List PlainEntry) × (k ≡ extended j made)

-- the run comes to an end, and the state is a prefix of what the run comes to
abbrev pub IsRunPrefix : {S X : Type 0} → (S → S → Type 0) → S → RunOutcome S X → Type 0
IsRunPrefix is_prefix s (finished x t) = is_prefix s t
IsRunPrefix is_prefix s mismatched = ⊥

-- If the call stops early, this state is a prefix of what the run comes to. Of calls that don't
-- extend the state it says nothing.
abbrev pub StopsEarly : {S T E X : Type 0} → Bool → Bool → (S → S → Type 0) → Result T E
    → RunOutcome S X → S → Type 0
StopsEarly is_determined calls_extend is_prefix result run new =
    OnErr result (is_determined ≡ true → calls_extend ≡ true → IsRunPrefix is_prefix new run)
