-- What a guardian keeps, and what contracts see of it.
use Rattle.std.specs.Prelude.{IfOk, OnErr, OnOk, Result, ◌≡◌}
use Rattle.argus_core.specs.StateRefinement.{StateRefinesJournal}
use Rattle.argus_core.specs.declared.engine.guardian_state.GuardianState.{GuardianState}
use Rattle.argus_entries.specs.{Call.PlainCall, Reply.plain_reply, declared.reply.Reply.Reply}
use Rattle.argus_journal.specs.{JournalView.{JournalView, after, reply_to}, LegalJournal.{entries_in, opening_in}}

-- the state agrees with its journal
abbrev pub StateInvariant : GuardianState → Type 0
StateInvariant state =
    StateRefinesJournal state.tree state.objects.items state.holdings
    (opening_in state.journal) (entries_in state.journal)

-- what contracts see of a guardian in this state
abbrev pub journal_view_of : GuardianState → JournalView
journal_view_of state = record {
  opening = opening_in state.journal;
  entries
      = entries_in state.journal;
}

-- the reply to the call is the one that follows from the journal, which grows by the call with it;
-- or there was no memory, and the journal is as before
pub record IsAnswered {E : Type 0} (old new : GuardianState) (call : PlainCall)
    (result : Result Reply E) : Type 0 where
  pub reply : IfOk result (λ reply. plain_reply reply ≡ reply_to (journal_view_of old) call)
  pub ok : OnOk result (journal_view_of new ≡ after (journal_view_of old) call)
  pub err : OnErr result (journal_view_of new ≡ journal_view_of old)
