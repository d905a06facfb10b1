-- What contracts see of a guardian: its journal, as the opening and the entries since then.
use Rattle.std.specs.Coded.{Coded, code_by, coded_list, coded_option, coded_ℕ, coded×}
use Rattle.std.specs.Prelude.{List, Option, refl, ℕ, ◌∷◌}
use Rattle.argus_contents.specs.{Content.PlainContent, ContentCode.content_coded, Shape.PlainShape}
use Rattle.argus_contents.specs.ShapeCode.{shape_coded}
use Rattle.argus_entries.specs.{Call.PlainCall, Entry.PlainEntry, EntryCode.entry_coded, Reply.PlainReply}
use Rattle.argus_entries.specs.declared.refusal.Refusal.{Refusal}
use Rattle.argus_journal.specs.{Answers.{answer, refusal}, Events.history, Folding.next_entry_number, Objects.shapes}
use Rattle.argus_journal.specs.Opening.{Opening}

-- a journal: where it begins, and its entries, the newest first
pub record JournalView : Type 0 where
  pub opening : Opening
  pub entries : List PlainEntry

-- openings are stored as objects and two numbers
abbrev pub opening_coded : Coded Opening
opening_coded =
    code_by (List (PlainShape × Option PlainContent) × (ℕ × ℕ))
    (coded× (coded_list (coded× shape_coded (coded_option content_coded))) (coded× coded_ℕ coded_ℕ))
    (λ s. (s.objects, (s.first_action, s.first_entry)))
    (λ p. record { objects = p.0; first_action = p.1.0; first_entry = p.1.1 }) (λ _. refl)

-- journals are stored as their opening and their entries
abbrev pub journal_view_coded : Coded JournalView
journal_view_coded =
    code_by (Opening × List PlainEntry) (coded× opening_coded (coded_list entry_coded))
    (λ j. (j.opening, j.entries)) (λ p. record { opening = p.0; entries = p.1 }) (λ _. refl)

-- a call with a reply
abbrev pub entry_with : PlainCall → PlainReply → PlainEntry
entry_with call reply = record { call = call; reply = reply }

-- the reply to the call that follows from the journal
abbrev pub reply_to : JournalView → PlainCall → PlainReply
reply_to journal call = answer journal.opening journal.entries call

-- the first refusal of the call that applies, if any
abbrev pub refusal_to : JournalView → PlainCall → Option Refusal
refusal_to journal call =
    refusal (history journal.opening journal.entries) (shapes journal.opening journal.entries) call

-- the call with the reply that follows from the journal
abbrev pub entry_of : JournalView → PlainCall → PlainEntry
entry_of journal call = entry_with call (reply_to journal call)

-- the journal with one more entry
abbrev pub with_entry : JournalView → PlainEntry → JournalView
with_entry journal e = record { opening = journal.opening; entries = e ∷ journal.entries }

-- the journal with the call, and the reply that follows from it
abbrev pub after : JournalView → PlainCall → JournalView
after journal call = with_entry journal (entry_of journal call)

-- the number that the journal's next entry gets
abbrev pub next_entry : JournalView → ℕ
next_entry journal = next_entry_number journal.opening journal.entries
