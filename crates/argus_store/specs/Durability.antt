-- What a guardian that a log keeps goes through, over any number of runs: calls, commits, crashes and openings.
use Rattle.std.specs.Prelude.{◌≡◌, ◌≢◌, ◌⊎◌, ℕ, ◌++◌, Bool, List, Option, Some}
use Rattle.argus_journal.specs.{Call.{PlainCall, commit}, Entry.PlainEntry, JournalView.{JournalView, after}}
use Rattle.argus_guardian.specs.{JournalText.journal_text, ResumeLaws.IsListable, Resumed.IsResumed}
use Rattle.argus_guardian.specs.resume_declared.resumed.Resumed.{Resumed}
use Rattle.argus_guardian.specs.resume_declared.read_end.ReadEnd.TheVariants as read
use Rattle.argus_store.specs.{Chain.listing_of, Journal.Journal}

-- A moment: the guardian's journal, the journal that the last acknowledged commit left, and the log.
pub record Moment : Type 0 where
  pub made : JournalView
  pub acknowledged : JournalView
  pub log : Journal

abbrev pub moment : JournalView → JournalView → Journal → Moment
moment made acknowledged log = record { made = made; acknowledged = acknowledged; log = log }

-- both begin alike, and the second goes on with these entries, if any
pub record IsFront (front whole : JournalView) : Type 0 where
  pub opening : whole.opening ≡ front.opening
  pub since : List PlainEntry
  pub all : whole.entries ≡ since ++ front.entries

-- the guardian has what the log lists, and that counts as acknowledged
pub record Begins (m : Moment) : Type 0 where
  pub listed : listing_of m.log ≡ journal_text m.made
  pub listable : IsListable m.made
  pub acknowledged : m.acknowledged ≡ m.made

-- with this call the guardian's journal is still one that a listing spells
abbrev pub CanCall : Moment → PlainCall → Type 0
CanCall m call = IsListable (after m.made call)

-- this log has all that the guardian has made, and the commit of this action
abbrev pub HasCommit : Moment → ℕ → Journal → Type 0
HasCommit m action log = CanCall m (commit action) × (listing_of log ≡ journal_text (after m.made (commit action)))

-- A crash may leave this log: the one that was there, or that of a commit under way, of whatever action.
abbrev pub MayLeave : Moment → Journal → Type 0
MayLeave m log = (log ≡ m.log) ⊎ ((action : ℕ) × HasCommit m action log)

-- The process has ended, at whatever moment, and the log that was left was opened: the guardian was resumed from its
-- listing, with enough memory and no read that failed. What was acknowledged, was.
pub record Reopens (m n : Moment) : Type 0 where
  pub left : MayLeave m n.log
  pub has : Option (List ℕ)
  pub failed : Bool
  pub resumed : Resumed
  pub resumes : IsResumed (Some (listing_of n.log)) has failed resumed
  pub memory : resumed.end ≢ read.OutOfMemory
  pub reads : resumed.end ≢ read.Read
  pub made : n.made ≡ resumed.guardian
  pub acknowledged : n.acknowledged ≡ m.acknowledged

-- One thing after another: a call, whose entry the log hasn't got; a commit that has returned `Ok`; a crash or another
-- end, and the next opening. A call or a commit that has returned an error while the database is open changes nothing.
pub data Runs : Moment → Moment → Type 0 where
  nothing : (m : Moment) → Runs m m
  calls : (m n : Moment) (call : PlainCall) → Runs m n → CanCall n call
      → Runs m (moment (after n.made call) n.acknowledged n.log)
  commits : (m n : Moment) (action : ℕ) (log : Journal) → Runs m n → HasCommit n action log
      → Runs m (moment (after n.made (commit action)) (after n.made (commit action)) log)
  reopens : (m n o : Moment) → Runs m n → Reopens n o → Runs m o

-- The log lists a journal that begins with all that was acknowledged, and with which the guardian's begins.
pub record IsDurable (m : Moment) : Type 0 where
  pub has : JournalView
  pub listed : listing_of m.log ≡ journal_text has
  pub acknowledged : IsFront m.acknowledged has
  pub made : IsFront has m.made

-- The guardian of the next run begins with all that was acknowledged; and it has nothing but what the last one had
-- made, or tried to commit.
pub record IsFound (m n : Moment) : Type 0 where
  pub acknowledged : IsFront m.acknowledged n.made
  pub made : IsFront n.made m.made ⊎ ((action : ℕ) × (n.made ≡ after m.made (commit action)))
