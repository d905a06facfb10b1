-- An embedded guardian with a prepared commit, what the commit leaves, and its line.
use Rattle.std.specs.{Coded.{Coded, code_by, coded_ℕ, coded×}, Prelude.{List, refl, ℕ}}
use Rattle.argus_journal.specs.{Call.commit, EntrySpelling.entry_line, JournalView.{entry_of, next_entry, reply_to}}
use Rattle.argus_embed.specs.Embedded.{EmbeddedState, after_call, embedded_state_coded, outcome_of}
use Rattle.argus_embed.specs.declared.outcome.Outcome.{Outcome}

-- the guardian as it is before the commit, and the action that will commit
pub record ReadyState : Type 0 where
  pub guardian : EmbeddedState
  pub action : ℕ

-- both are stored
abbrev pub ready_state_coded : Coded ReadyState
ready_state_coded =
    code_by (EmbeddedState × ℕ) (coded× embedded_state_coded coded_ℕ) (λ r. (r.guardian, r.action))
    (λ p. record { guardian = p.0; action = p.1 }) (λ _. refl)

-- the guardian after the commit: the journal has it with its reply
abbrev pub after_commit : ReadyState → EmbeddedState
after_commit ready = after_call ready.guardian (commit ready.action)

-- what comes of the commit: it is done, or refused
abbrev pub commit_outcome : ReadyState → Outcome
commit_outcome ready = outcome_of (reply_to ready.guardian.journal (commit ready.action))

-- the journal's line that the commit will make, with its line feed
abbrev pub commit_line : ReadyState → List ℕ
commit_line ready =
    entry_line (next_entry ready.guardian.journal)
    (entry_of ready.guardian.journal (commit ready.action))
