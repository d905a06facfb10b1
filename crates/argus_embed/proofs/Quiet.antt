-- Whether an action is live, as a host sees it: by the first live one.
use Rattle.std.proofs.Common.{Bool, None, Option, Some, ap, arith, false, inl, inr, sym, true, ℕ, ◌+◌, ◌-◌, ◌∙◌, ◌≡◌}
use Rattle.std.proofs.lemmas.Bool.{both_ways, cases_Bool}
use Rattle.std.specs.{List.list_any, Option.{IfNone, IfSome, is_some}, Prelude.not}
use Rattle.argus_actions.specs.declared.action_id.ActionId.{ActionId}
use Rattle.argus_guardian.specs.{Checkpoint.is_quiet, Statuses.NoneLiveFrom}
use Rattle.argus_journal.specs.{Events.history, JournalFacts.is_live_in, JournalView.JournalView}
use Rattle.argus_model.specs.{History.begun_actions, Status.is_live}
use Rattle.argus_model.proofs.{Live.{begun_listed, is_begun_parts}, Numbers.{any_found, any_from}, Siblings.live_begun}

-- where one is live, the journal isn't quiet
busy_where : (journal : JournalView) (a : ℕ) → is_live_in journal.opening journal.entries a ≡ true
    → is_quiet journal ≡ false
busy_where journal a live =
    let h = history journal.opening journal.entries in
    ap not (any_from (is_live h) (begun_actions h) (a + 1) (begun_listed h (a + 1) ∙ live_begun h (a + 1) live) live)

-- where none is, from the first on, it is
quiet_where : (journal : JournalView) → NoneLiveFrom journal 0 → is_quiet journal ≡ true
quiet_where journal none =
    let h = history journal.opening journal.entries in
    elim (cases_Bool (list_any (is_live h) (begun_actions h))) [
      | inl e ↦
          let q = any_found (is_live h) (begun_actions h) e in
          let begun = is_begun_parts h q.0 (live_begun h q.0 q.2) in
          let up : q.0 ≡ (q.0 - 1) + 1 = omega (arith, begun.0) in
          absurd (both_ways (is_live h q.0) (ap (is_live h) up ∙ none (q.0 - 1) (omega arith)) q.2)
      | inr e ↦ ap not e
    ]

-- the same by the first live action that is found, or isn't
pub quiet_if : (journal : JournalView) (found : Option ActionId) (none : Bool) → is_some found ≡ not none
    → IfSome found (λ (a : ActionId). is_live_in journal.opening journal.entries a.0 ≡ true)
    → IfNone found (NoneLiveFrom journal 0) → none ≡ is_quiet journal
quiet_if journal None true is live all = sym (quiet_where journal all)
quiet_if journal None false is live all = cc
quiet_if journal (Some a) true is live all = cc
quiet_if journal (Some a) false is live all = sym (busy_where journal a.0 live)
