-- The step that is ready says how the journal answers the commit.
use Rattle.std.proofs.Common.{None, ap, inl, inr, rules, subst, sym, ◌∙◌, ◌≡◌, ◌⊎◌}
use Rattle.argus_actions.specs.{Refusals.commit_refusal, declared.action_id.ActionId.ActionId}
use Rattle.argus_core.proofs.{OfState.{commits, end_right}, ready_commit.ReadyCommit.entry.Goals.in-Inherit}
use Rattle.argus_core.{proofs.ready_commit.ReadyCommit.entry.Goals.in-Refused, specs.CommitStep.CanCommit}
use Rattle.argus_core.specs.{GuardianState.journal_view_of, ReadyCommit.Committing}
use Rattle.argus_core.specs.declared.engine.commit_step.CommitStep.{CommitStep}
use Rattle.argus_core.specs.declared.engine.guardian_state.GuardianState.{GuardianState}
use Rattle.argus_entries.specs.{Call.commit, Reply.plain_reply}
use Rattle.argus_journal.specs.JournalView.{entry_of, entry_with, reply_to}
use Rattle.argus_core.proofs.ready_commit.ReadyCommit.entry.Goals as goal
use Rattle.argus_core.specs.declared.engine.commit_step.CommitStep.TheVariants as step

-- nothing refuses a commit that is ready to be made
is_free : (p : GuardianState) (a : ActionId) (s : CommitStep) → CanCommit p a s
    → ((parent : ActionId) × (s ≡ step.Inherit parent)) ⊎ (s ≡ step.Settle) → commit_refusal p.tree a.0 ≡ None
is_free p a s can (inl sub) = (subst (CanCommit p a) sub.1 can).free
is_free p a s can (inr top) = (subst (CanCommit p a) top can).free

pub returns-clause-entry : goal.returns-clause-entry
returns-clause-entry c =
    let p = c.self.inside.state in
    let a = c.self.inside.action in
    let can = c.self.invariant.1 in
    let right : plain_reply c.match-self.reply ≡ reply_to (journal_view_of p) (commit a.0) = elim c.match-self.branch [
      | in-Refused w ↦
          ap plain_reply w.reply-is ∙ sym (subst (CanCommit p a) w.in-Refused.is can).right
      | in-Inherit w ↦
          ap plain_reply w.reply-is
          ∙ end_right p (commits p c.self.invariant.0 a) (is_free p a c.self.inside.step can w.in-Inherit.is)
    ] in
    ap (entry_with (commit a.0)) right ∙ ap (λ (v : Committing). entry_of v.journal (commit v.action)) c.self.view_is

pub returns-clause-number : goal.returns-clause-number
returns-clause-number c = search rules
