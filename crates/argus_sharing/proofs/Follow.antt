-- The board's effects follow the journal, from one call to the next.
use Rattle.std.proofs.Common.{Bool, List, Option, Some, [], ap, append_assoc, arith, false, refl, subst, sym, true, ℕ}
use Rattle.std.proofs.{Common.{◌++◌, ◌∙◌, ◌∷◌, ◌≡◌, ◌≢◌}, lemmas.List.append-nil}
use Rattle.std.specs.Prelude.{Err, Ok, OnErr, OnOk, Result}
use mathlib.Core.List.{IsPrefix}
use Rattle.argus_board.proofs.Prefixes.{begins_itself, begins_later}
use Rattle.argus_board.specs.BoardView.{BoardView}
use Rattle.argus_contents.specs.{Effect.Effect, Content.PlainContent}
use Rattle.argus_entries.specs.Call.{PlainCall, abort, abort_others, alter, ask, begin_nested, begin_sub, begin_top}
use Rattle.argus_entries.specs.{Call.{commit, declare, test_read, test_write}, Entry.PlainEntry}
use Rattle.argus_core.specs.{Checkpoint.after_checkpoint, ReadyCommit.added_by_call}
use Rattle.argus_journal.proofs.{Folded.{effects_after, entry_stays}, Serial.effects_added}
use Rattle.argus_journal.specs.{Effects.added_by, Events.{event_if, history, is_answered, is_begun_reply, says_yes}}
use Rattle.argus_journal.specs.{Legal.Legal, Numbering.in_history, Opening.{Opening, content_in, is_sound}}
use Rattle.argus_journal.specs.JournalFacts.{effects_of}
use Rattle.argus_journal.specs.JournalView.{JournalView, after, entry_of, next_entry, reply_to}
use Rattle.argus_model.proofs.Effects.{table-append, table_same}
use Rattle.argus_model.specs.{Effects.table, Event.{Aborted, Accessed, Began, Event, Nested, Sub, Top}}
use Rattle.argus_model.specs.Status.{live_siblings}
use Rattle.argus_sharing.specs.Following.{FollowsJournal, GoesOn, IsNoCommit, IsSharedJournal, journal_effects}

-- what adds nothing where it happens adds nothing where it may
may_add : (b : Bool) (s : Opening) (event : Event PlainEntry) (j : List PlainEntry) → added_by s (Some event) j ≡ []
    → added_by s (event_if b event) j ≡ []
may_add true s event j none = none
may_add false s event j none = refl

-- a call that is no commit adds no effect
adds_none : (journal : JournalView) (call : PlainCall) → IsNoCommit call → added_by_call journal call ≡ []
adds_none journal (declare shape) other = refl
adds_none journal begin_top other =
    may_add (is_begun_reply (reply_to journal begin_top)) journal.opening (Began Top) journal.entries refl
adds_none journal (begin_sub parent) other =
    may_add (is_begun_reply (reply_to journal (begin_sub parent))) journal.opening (Began (Sub (in_history parent)))
    journal.entries refl
adds_none journal (begin_nested creator) other =
    may_add (is_begun_reply (reply_to journal (begin_nested creator))) journal.opening (Began (Nested
    (in_history creator)))
    journal.entries refl
adds_none journal (commit a) other = absurd other
adds_none journal (abort a) other =
    may_add (is_answered (reply_to journal (abort a))) journal.opening (Aborted (in_history a
    ∷ [])) journal.entries refl
adds_none journal (abort_others a) other =
    may_add (is_answered (reply_to journal (abort_others a))) journal.opening
    (Aborted (live_siblings (history journal.opening journal.entries) (in_history a))) journal.entries refl
adds_none journal (ask a o query) other =
    may_add (is_answered (reply_to journal (ask a o query))) journal.opening
    (Accessed (in_history a) o (entry_of journal (ask a o query))) journal.entries refl
adds_none journal (alter a o change) other =
    may_add (is_answered (reply_to journal (alter a o change))) journal.opening
    (Accessed (in_history a) o (entry_of journal (alter a o change))) journal.entries refl
adds_none journal (test_read a o) other =
    may_add (says_yes (reply_to journal (test_read a o))) journal.opening
    (Accessed (in_history a) o (entry_of journal (test_read a o))) journal.entries refl
adds_none journal (test_write a o) other =
    may_add (says_yes (reply_to journal (test_write a o))) journal.opening
    (Accessed (in_history a) o (entry_of journal (test_write a o))) journal.entries refl

-- the effects after one call more
effects_then : (journal : JournalView) (call : PlainCall) → Legal journal.opening journal.entries
    → journal_effects (after journal call) ≡ journal_effects journal ++ added_by_call journal call
effects_then journal call legal = effects_added journal.opening (entry_of journal call) journal.entries (refl, legal)

module _ (opening : ℕ → Option PlainContent) (journal next : JournalView) where
  -- after one call more, and what it adds
  pub follows_call : (call : PlainCall) (l m : List Effect) → Legal journal.opening journal.entries
      → FollowsJournal opening journal l
      → next ≡ after journal call → m ≡ l ++ added_by_call journal call → FollowsJournal opening next m
  follows_call call l m legal h is more =
      subst (λ s. FollowsJournal opening s m) (sym is) (
        h.0,
        h.1,
        more ∙ ap (λ z. z ++ added_by_call journal call) h.2
            ∙ append_assoc h.0 (journal_effects journal) (added_by_call journal call)
            ∙ ap (λ z. h.0 ++ z) (sym (effects_then journal call legal)),
      )

  -- after a fold of the journal
  follows_fold : (l : List Effect) → is_sound journal.opening ≡ true → Legal journal.opening journal.entries
      → FollowsJournal opening journal l → next ≡ after_checkpoint journal → FollowsJournal opening next l
  follows_fold l sound legal h is =
      let s = journal.opening in
      let j = journal.entries in
      subst (λ t. FollowsJournal opening t l) (sym is) (
        h.0 ++ effects_of s j,
        (λ o. table-append opening h.0 (effects_of s j) o
            ∙ table_same (table opening h.0) (content_in s.objects) (effects_of s j) h.1 o
            ∙ ap (λ z. table (content_in s.objects) z o) (sym (append-nil (effects_of s j)))
            ∙ effects_after s j sound legal [] o),
        h.2 ∙ sym (append-nil (h.0 ++ effects_of s j)),
      )

  -- after a checkpoint, or a refused one
  pub follows_checkpoint : {A B : Type 0} (r : Result A B) (l : List Effect) → is_sound journal.opening ≡ true
      → Legal journal.opening journal.entries → FollowsJournal opening journal l → OnOk r (next
      ≡ after_checkpoint journal)
      → OnErr r (next ≡ journal) → FollowsJournal opening next l
  follows_checkpoint (Ok a) l sound legal h ok err = follows_fold l sound legal h ok
  follows_checkpoint (Err b) l sound legal h ok err = subst (λ s. FollowsJournal opening s l) (sym err) h

-- a checkpoint keeps the number of the next entry
pub checkpoint_number : {A B : Type 0} (r : Result A B) (journal next : JournalView) → OnOk r (next
    ≡ after_checkpoint journal)
    → OnErr r (next ≡ journal) → next_entry next ≡ next_entry journal
checkpoint_number (Ok a) journal next ok err = ap next_entry ok ∙ entry_stays journal.opening journal.entries
checkpoint_number (Err b) journal next ok err = ap next_entry err

-- what is published and what is pending are together the same behind a publish
pub published_same : {A B : Type 0} (r : Result A B) (was now : BoardView)
    → OnOk r ((now.published ≡ was.published ++ was.pending) × (now.pending ≡ []))
    → OnErr r ((now ≡ was) × (was.pending ≢ []))
    → now.published ++ now.pending ≡ was.published ++ was.pending
published_same (Ok a) was now ok err =
    ap (λ z. z ++ now.pending) ok.0 ∙ ap (λ z. (was.published ++ was.pending) ++ z) ok.1
    ∙ append-nil (was.published ++ was.pending)
published_same (Err b) was now ok err = ap (λ (s : BoardView). s.published ++ s.pending) err.0

-- a board that stays goes on, after a call that is no commit
goes_on_other : (journal : JournalView) (call : PlainCall) (board : BoardView) → IsNoCommit call
    → GoesOn board board (added_by_call journal call)
goes_on_other journal call board other = (
  ([], append-nil board.published),
  sym (ap (λ z. (board.published ++ board.pending) ++ z) (adds_none journal call other)
      ∙ append-nil (board.published ++ board.pending)),
)

-- so it does if the call was made
pub goes_on_if : {A B : Type 0} (r : Result A B) (journal next : JournalView) (call : PlainCall) (board : BoardView)
    → IsNoCommit call → OnOk r (next ≡ after journal call)
    → OnOk r ((next ≡ after journal call) × GoesOn board board (added_by_call journal call))
goes_on_if (Ok a) journal next call board other made = (made, goes_on_other journal call board other)
goes_on_if (Err b) journal next call board other made = tt

-- what was published stays, behind a publish
published_on : {A B : Type 0} (r : Result A B) (was pending now : BoardView) → pending.published ≡ was.published
    → OnOk r ((now.published ≡ pending.published ++ pending.pending) × (now.pending ≡ []))
    → OnErr r ((now ≡ pending) × (pending.pending ≢ []))
    → IsPrefix was.published now.published
published_on (Ok a) was pending now same ok err =
    (pending.pending, ap (λ z. z ++ pending.pending) (sym same) ∙ sym ok.0)
published_on (Err b) was pending now same ok err =
    ([], append-nil was.published ∙ sym same ∙ ap (λ (s : BoardView). s.published) (sym err.0))

-- so does the board where an effect was pending, behind a publish
pub goes_on_published : {A B : Type 0} (r : Result A B) (was pending now : BoardView) (added : List Effect)
    → pending.published ≡ was.published → pending.pending ≡ was.pending ++ added
    → OnOk r ((now.published ≡ pending.published ++ pending.pending) × (now.pending ≡ []))
    → OnErr r ((now ≡ pending) × (pending.pending ≢ []))
    → GoesOn was now added
goes_on_published r was pending now added same more ok err = (
  published_on r was pending now same ok err,
  published_same r pending now ok err ∙ ap (λ z. z ++ pending.pending) same ∙ ap (λ z. was.published ++ z) more
      ∙ sym (append_assoc was.published was.pending added),
)

-- a board that stays goes on, and nothing is added
pub stays : (board : BoardView) → GoesOn board board []
stays board = (begins_itself board.published, sym (append-nil (board.published ++ board.pending)))

-- a board that goes on, and then goes on further
pub goes_on_further : (was now later : BoardView) (added more : List Effect) → GoesOn was now added
    → GoesOn now later more → GoesOn was later (added ++ more)
goes_on_further was now later added more on further = (
  begins_later was.published now.published later.published on.0 further.0,
  further.1 ∙ ap (λ z. z ++ more) on.1 ∙ append_assoc (was.published ++ was.pending) added more,
)

-- one call more leaves a journal that a shared guardian may have
pub shared_on : (start : ℕ) (journal next : JournalView) (call : PlainCall) → IsSharedJournal start journal
    → next ≡ after journal call → IsSharedJournal start next
shared_on start journal next call shared is = subst (IsSharedJournal start) (sym is) (
  shared.0,
  shared.1,
  (refl, shared.2),
  omega (arith, shared.3),
)
