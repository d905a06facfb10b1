use Rattle.std.proofs.Common.{◌≡◌, ◌≤◌, ◌∙◌, arith, inl, rules, string_bytes}
use Rattle.sqlite.specs.Held.{state}
use Rattle.argus_store.specs.Kept.{lines_from}
use Rattle.argus_store.proofs.{KeptLines.still, Logs.settled}
use Rattle.argus_store.proofs.kept.Kept.commit.Goals as goal

pub returns-in-Err-clause-crash : goal.returns-in-Err-clause-crash
returns-in-Err-clause-crash g c j was clean db left =
    let log = (rw (← c.self.view_is) at was).log in
    inl (settled (state g.S.Store c.self.inside.store) j
    (λ db left. g.met.S.Store.settled c.self.inside.store.store db log.is_open left) log db left)

pub returns-in-Ok-append_ready-clause-crash : goal.returns-in-Ok-append_ready-clause-crash
returns-in-Ok-append_ready-clause-crash g c j was clean =
    let kept = rw (← c.self.view_is) at was in
    let starts : c.self.inside.guardian.opening.first_entry ≤ c.self.inside.end.next = omega (arith, kept.next) in
    let lines : string_bytes c.in_ok-lines.lines ≡ lines_from c.self.inside.guardian c.self.inside.end.next =
    search rules in
    let same = c.in-Ok.ensures.journal ∙ c.replace-guardian.ensures.value in
    let all = (rw (same, c.in-Ok.ensures.action, c.as_str.ensures.value) at c.in-Ok-append_ready.ensures.appended) j kept lines clean in
    rw (← c.self.view_is) all.crash

pub returns-in-Err-append_ready-clause-failed : goal.returns-in-Err-append_ready-clause-failed
returns-in-Err-append_ready-clause-failed g c j was clean is_open =
    let kept = rw (← c.self.view_is) at was in
    let starts : c.self.inside.guardian.opening.first_entry ≤ c.self.inside.end.next = omega (arith, kept.next) in
    let lines : string_bytes c.in_ok-lines.lines ≡ lines_from c.self.inside.guardian c.self.inside.end.next =
    search rules in
    let same = c.in-Ok.ensures.journal ∙ c.replace-guardian.ensures.value in
    let all = (rw (same, c.in-Ok.ensures.action, c.as_str.ensures.value) at c.in-Err-append_ready.ensures.appended) j kept lines clean in
    still g.S.Store c.args.self.now _ c.append_ready.new.store j was (all.failed is_open) (search rules)

pub returns-in-Err-append_ready-clause-crash : goal.returns-in-Err-append_ready-clause-crash
returns-in-Err-append_ready-clause-crash g c j was clean =
    let kept = rw (← c.self.view_is) at was in
    let starts : c.self.inside.guardian.opening.first_entry ≤ c.self.inside.end.next = omega (arith, kept.next) in
    let lines : string_bytes c.in_ok-lines.lines ≡ lines_from c.self.inside.guardian c.self.inside.end.next =
    search rules in
    let same = c.in-Ok.ensures.journal ∙ c.replace-guardian.ensures.value in
    let all = (rw (same, c.in-Ok.ensures.action, c.as_str.ensures.value) at c.in-Err-append_ready.ensures.appended) j kept lines clean in
    rw (← c.self.view_is) all.crash
