-- How the effects on a board follow a journal.
use Rattle.std.specs.{List.range_with_len, Prelude.{List, Option, map, true, ℕ, ◌++◌, ◌≡◌, ◌≤◌}}
use mathlib.Core.List.{IsPrefix}
use Rattle.argus_board.specs.BoardView.{BoardView}
use Rattle.argus_contents.specs.{Effect.Effect, Content.PlainContent}
use Rattle.argus_core.specs.ReadyCommit.{added_by_call}
use Rattle.argus_entries.specs.Call.{PlainCall, abort, abort_others, alter, ask, begin_nested, begin_sub, begin_top}
use Rattle.argus_entries.specs.{Call.{commit, declare, test_read, test_write}, Reply.PlainReply}
use Rattle.argus_journal.specs.{Legal.Legal, Objects.declared, Opening.{KeepsNumbers, content_in, is_sound}}
use Rattle.argus_journal.specs.JournalFacts.{base_of, effects_of}
use Rattle.argus_journal.specs.JournalView.{JournalView, after, next_entry, reply_to}
use Rattle.argus_model.specs.Effects.{table}
use Rattle.argus_sharing.specs.{Locked.LockedState, declared.publishing_guardian.PublishingGuardian.PublishingGuardian}

-- the effects of the journal's entries
abbrev pub journal_effects : JournalView → List Effect
journal_effects journal = effects_of journal.opening journal.entries

-- the effects are some that leave the contents of the journal's opening, and then those of its
-- entries
abbrev pub FollowsJournal : (ℕ → Option PlainContent) → JournalView → List Effect → Type 0
FollowsJournal opening journal effects = (earlier : List Effect)
    × ((o : ℕ) → table opening earlier o ≡ content_in journal.opening.objects o)
    × (effects ≡ earlier ++ journal_effects journal)

-- a journal that a shared guardian may have: its opening is sound and within the limits, each reply
-- follows from the entries before it, and no entry since the sharing began is missing
abbrev pub IsSharedJournal : ℕ → JournalView → Type 0
IsSharedJournal start journal = (is_sound journal.opening ≡ true) × KeepsNumbers journal.opening
    × Legal journal.opening journal.entries × (start ≤ next_entry journal)

-- the call gets this number and this reply after a journal that a shared guardian may have
abbrev pub IsNextEntry : ℕ → ℕ → PlainCall → PlainReply → Type 0
IsNextEntry start at call reply = (journal : JournalView) × IsSharedJournal start journal
    × (at ≡ next_entry journal) × (reply ≡ reply_to journal call)

-- a shared guardian may have this journal, and the board follows it
abbrev pub IsFollowed : (ℕ → Option PlainContent) → ℕ → LockedState → Type 0
IsFollowed opening start state = IsSharedJournal start state.journal
    × FollowsJournal opening state.journal (state.board.published ++ state.board.pending)

-- what was published stays published, and these effects come after all that was there
abbrev pub GoesOn : BoardView → BoardView → List Effect → Type 0
GoesOn was now added = IsPrefix was.published now.published
    × (now.published ++ now.pending ≡ (was.published ++ was.pending) ++ added)

-- the call came into the journal, and what it adds onto the board
abbrev pub IsMade : LockedState → LockedState → PlainCall → Type 0
IsMade was now call = (now.journal ≡ after was.journal call)
    × GoesOn was.board now.board (added_by_call was.journal call)

-- the same of a guardian with its board
abbrev pub IsPublished : {N R : Type 0} → PublishingGuardian N R → PublishingGuardian N R → PlainCall → Type 0
IsPublished was now call = (now.guardian ≡ after was.guardian call)
    × GoesOn was.board now.board (added_by_call was.guardian call)

-- before, a shared guardian may have the journal, and after it the board follows the journal
abbrev pub GoesFrom : (ℕ → Option PlainContent) → ℕ → LockedState → LockedState → Type 0
GoesFrom opening start was now = IsSharedJournal start was.journal
    × FollowsJournal opening now.journal (now.board.published ++ now.board.pending)

-- the call isn't a commit
abbrev pub IsNoCommit : PlainCall → Type 0
IsNoCommit (commit a) = ⊥
IsNoCommit (declare shape) = Unit {0}
IsNoCommit begin_top = Unit {0}
IsNoCommit (begin_sub parent) = Unit {0}
IsNoCommit (begin_nested creator) = Unit {0}
IsNoCommit (abort a) = Unit {0}
IsNoCommit (abort_others a) = Unit {0}
IsNoCommit (ask a o query) = Unit {0}
IsNoCommit (alter a o change) = Unit {0}
IsNoCommit (test_read a o) = Unit {0}
IsNoCommit (test_write a o) = Unit {0}

-- the bases of the declared objects, in the order of their numbers
abbrev pub journal_bases : JournalView → List (Option PlainContent)
journal_bases journal =
    map (base_of journal.opening journal.entries)
    (range_with_len 0 (declared journal.opening journal.entries))
