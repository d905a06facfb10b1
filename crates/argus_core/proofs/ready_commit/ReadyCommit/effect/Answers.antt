-- The commit of a subaction adds no effect, that of a topaction the action's own.
use Rattle.std.{proofs.Common.{ap, sym, ◌∙◌}, specs.Option.option_to_list}
use Rattle.argus_entries.specs.Call.{commit}
use Rattle.argus_core.{proofs.Commits.{if_ok, sub_adds, top_adds}, specs.ReadyCommit.{Committing, added_by_call}}
use Rattle.argus_core.proofs.ready_commit.ReadyCommit.effect.Goals as goal

pub returns-in-Some-parent : goal.returns-in-Some-parent
returns-in-Some-parent c =
    let p = c.self.inside.state in
    sym (ap (λ (v : Committing). added_by_call v.journal (commit v.action)) (sym c.self.view_is)
    ∙ sub_adds _ _ _ _ _ c.self.invariant.0
    c.self.inside.action (sym c.commit_refusal.ensures ∙ c.in-None.is) c.in-Some-parent.field-0
    (sym c.parent.ensures ∙ c.in-Some-parent.is))

pub returns-in-None-parent : goal.returns-in-None-parent
returns-in-None-parent c =
    let p = c.self.inside.state in
    if_ok c.effect_in.result c.effect_in.ensures (λ effect is.
    ap option_to_list is
    ∙ top_adds _ _ _ _ _ c.self.invariant.0
    c.self.inside.action (sym c.commit_refusal.ensures ∙ c.in-None.is) (sym c.parent.ensures ∙ c.in-None-parent.is)
    ∙ ap (λ (v : Committing). added_by_call v.journal (commit v.action)) c.self.view_is)
