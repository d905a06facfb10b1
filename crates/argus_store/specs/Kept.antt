-- A guardian whose journal a log keeps.
use Rattle.std.specs.Coded.{Coded, code_by, coded×, coded_list, coded_ℕ}
use Rattle.std.specs.Prelude.{◌≡◌, ◌⊎◌, ℕ, ◌+◌, ◌-◌, ◌++◌, List, Option, None, Some, [], drop, refl, reverse}
use Rattle.std.specs.Prelude.{IfOk, IsTrue, OnErr}
use Rattle.std.specs.declared.result.Result.{Result}
use Rattle.sqlite.specs.{Store.Ghosts, Tree.Trees, Held.{Held, held_code, state}}
use Rattle.argus_journal.specs.{Entry.PlainEntry, EntrySpelling.entry_line, Folding.next_entry_number}
use Rattle.argus_journal.specs.JournalView.{JournalView, journal_view_coded, next_entry}
use Rattle.argus_guardian.specs.{JournalText.journal_text, Listing.each_from}
use Rattle.argus_store.specs.{Chain.{IsChained, ended, listing_of}, End.{EndsAt, with_lines}, Summing.entries_in}
use Rattle.argus_store.specs.{Journal.{HoldsLog, Journal}, Store.{HasLog, Leaves}}
use Rattle.argus_store.specs.declared.{end.End.End, keep_error.KeepError.KeepError}
use Rattle.argus_store.specs.contracts.end.End as end

-- the guardian, as its journal; the store; the name of the log, and where it ends
pub record KeptState (S : Type 0) : Type 0 where
  pub journal : JournalView
  pub store : Held S
  pub name : List ℕ
  pub end : End

-- the four are stored
abbrev pub kept_code : {S : Type 0} → Coded S → Coded (KeptState S)
kept_code {S} store =
    code_by (JournalView × (Held S × (List ℕ × End)))
    (coded× journal_view_coded (coded× (held_code store) (coded× (coded_list coded_ℕ) end.the_row.coded)))
    (λ k. (k.journal, (k.store, (k.name, k.end))))
    (λ p. record { journal = p.0; store = p.1.0; name = p.1.1.0; end = p.1.1.1 }) (λ _. refl)

-- the line of an entry with this number, with its line feed; nothing if there is none
abbrev pub line_of : ℕ → Option PlainEntry → List ℕ
line_of at None = []
line_of at (Some e) = entry_line at e

-- the log has a front of the guardian's journal, and ends where that does
pub record IsKept {S : Type 0} (g : Ghosts S) (k : KeptState S) (j : Journal) : Type 0 where
  pub log : HasLog (state g k.store) j
  pub chained : IsChained j
  pub ends : EndsAt j k.name k.end
  -- the entries that it has and those since, each with the newest first
  pub has : List PlainEntry
  pub since : List PlainEntry
  pub all : k.journal.entries ≡ since ++ has
  pub next : k.end.next ≡ next_entry_number k.journal.opening has
  pub listed : listing_of j ≡ journal_text (record { opening = k.journal.opening; entries = has })

-- the lines of the journal's entries from this number on
abbrev pub lines_from : JournalView → ℕ → List ℕ
lines_from journal at =
    each_from entry_line at (drop (at - journal.opening.first_entry) (reverse journal.entries))

-- these are the lines from this number on, without the last line feed
pub record AreFrom (journal : JournalView) (at : ℕ) (lines : List ℕ) : Type 0 where
  pub are : ended lines ≡ lines_from journal at
  pub count : at + entries_in lines ≡ next_entry journal

-- the log has all of it: its listing is the guardian's
pub record HasAll {S : Type 0} (g : Ghosts S) (k : KeptState S) (j : Journal) : Type 0 where
  pub kept : IsKept g k j
  pub whole : listing_of j ≡ journal_text k.journal

-- the log of this name has all of it now, by lines that were put behind this end, and so has what a crash leaves
pub record IsAcknowledged {S : Type 0} (g : Ghosts S) (name : List ℕ) (end : End) (k : KeptState S) (j : Journal)
    : Type 0 where
  pub lines : List ℕ
  pub has : HasAll g k (with_lines j name end lines)
  pub leaves : Leaves (state g k.store) (with_lines j name end lines)

-- a crash leaves the log from before, or that with all entries of this journal that it hadn't got
abbrev pub LeavesFront : {S : Type 0} → Ghosts S → KeptState S → Held S → JournalView → Journal → Type 0
LeavesFront g old store made j = (db : Trees) → (state g store).may_leave db → HoldsLog db j
    ⊎ ((lines : List ℕ) × (listing_of (with_lines j old.name old.end lines) ≡ journal_text made)
    × HoldsLog db (with_lines j old.name old.end lines))

-- What appending the entries of this journal that the log hasn't got has done of it. Ok: it has them, and ends there.
-- Otherwise it is as before, if it is still open.
pub record IsAppended {S : Type 0} (g : Ghosts S) (old : KeptState S) (store : Held S) (made : JournalView)
    (result : Result End KeepError) (j : Journal) : Type 0 where
  pub acknowledged : IfOk result (λ end. IsAcknowledged g old.name old.end
      (record { journal = made; store = store; name = old.name; end = end }) j)
  pub failed : IsTrue (state g store).is_open → OnErr result (HasLog (state g store) j)
  pub crash : LeavesFront g old store made j
