-- A journal to which entries are added.
use Rattle.std.proofs.Common.{List, [], ap, refl, sym, ◌++◌, ◌∙◌, ◌∷◌, ◌≡◌}
use Rattle.argus_entries.specs.{Call.PlainCall, Entry.PlainEntry}
use Rattle.argus_journal.specs.JournalView.{JournalView, entry_of, with_entry}
use Rattle.argus_runs.specs.{Played.reply_from_journal, RunPrefix.{IsJournalPrefix, IsRunPrefix, extended}}

-- entries may be added in two parts
pub extended_more : (j : JournalView) (first more : List PlainEntry)
    → extended j (first ++ more) ≡ extended (extended j first) more
extended_more j [] more = refl
extended_more j (e ∷ first) more = extended_more (with_entry j e) first more

-- a journal is a prefix of itself
pub prefix_refl : (j : JournalView) → IsJournalPrefix j j
prefix_refl j = ([], refl)

-- a prefix of a prefix is a prefix
pub prefix_trans : (j k l : JournalView) → IsJournalPrefix j k → IsJournalPrefix k l
    → IsJournalPrefix j l
prefix_trans j k l (a, d) (b, e) =
    (a ++ b, e ∙ ap (λ x. extended x b) d ∙ sym (extended_more j a b))

-- a journal is a prefix of what a call makes of it
pub asked_grows : (call : PlainCall) (j : JournalView) → IsRunPrefix IsJournalPrefix j
    (reply_from_journal call j)
asked_grows call j = (entry_of j call ∷ [], refl)
