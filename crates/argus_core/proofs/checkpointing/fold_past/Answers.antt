-- The folded parts are what the fold says, with all shapes and bases; `Busy` and `Full` come where they are due.
use Rattle.std.proofs.{Common.{ap, arith, refl, ◌∙◌, ◌≡◌}, lemmas.{Bool.both_ways, Grind.common_steps}}
use Rattle.argus_core.proofs.Checkpoints.{base_stays, busy_in, count_at, few_actions, fold_is, kept_folded, quiet_in}
use Rattle.argus_journal.specs.{Folding.next_entry_number, LegalJournal.{entries_in, opening_in}, Opening.Opening}
use Rattle.argus_journal.proofs.Folded.{shapes-with_contents}
use Rattle.argus_core.proofs.checkpointing.fold_past.Goals as goal

pub returns-then-is_busy-clause-busy : goal.returns-then-is_busy-clause-busy
returns-then-is_busy-clause-busy c =
    (λ _. busy_in c.args.state.now c.requires (c.if-is_busy.ensures.live refl), λ _. refl)

pub returns-then-is_busy-clause-full : goal.returns-then-is_busy-clause-full
returns-then-is_busy-clause-full c =
    let busy = busy_in c.args.state.now c.requires (c.if-is_busy.ensures.live refl) in
    (λ e. cc, λ q. absurd (both_ways _ busy q.0))

pub returns-then-len-gt-MAX_FIRST_ENTRY-clause-busy : goal.returns-then-len-gt-MAX_FIRST_ENTRY-clause-busy
returns-then-len-gt-MAX_FIRST_ENTRY-clause-busy c = grind (arith, common_steps, quiet_in)

pub returns-then-len-gt-MAX_FIRST_ENTRY-clause-full : goal.returns-then-len-gt-MAX_FIRST_ENTRY-clause-full
returns-then-len-gt-MAX_FIRST_ENTRY-clause-full c = grind (arith, common_steps, quiet_in, count_at)

pub fold-requires-clause-is_fold : goal.fold-requires-clause-is_fold
fold-requires-clause-is_fold c =
    let g = c.args.state.now in
    let s = opening_in g.journal in
    let j = entries_in g.journal in
    fold_is _ _ _ _ _ c.requires _ c.len-first.result
    (rw (c.as_slice.ensures.value) at c.in-Ok.ensures) c.len-first.ensures

pub starting_at-requires : goal.starting_at-requires
starting_at-requires c =
    let g = c.args.state.now in
    let s = opening_in g.journal in
    let j = entries_in g.journal in
    let few = few_actions _ _ _ _ _ c.requires in
    let e = c.len-first.ensures in omega (arith, few, e)

pub returns-in-Ok-clause-kept : goal.returns-in-Ok-clause-kept
returns-in-Ok-clause-kept c =
    let g = c.args.state.now in
    let s = opening_in g.journal in
    let j = entries_in g.journal in
    let count : c.len.result ≡ next_entry_number s j =
    count_at s _ j _ c.len.result c.len.ensures c.journal-2.ensures.opening c.journal-2.ensures.entries in
    let within = c.if-len-gt-MAX_FIRST_ENTRY.false in
    rw (c.fold.ensures.opening, c.fold.ensures.entries)
    (kept_folded _ _ _ _ _ c.requires
    c.first_action.result
    (c.first_action.ensures.first ∙ ap (λ (o : Opening). o.first_action) c.journal.ensures.opening)
    (c.if-is_busy.ensures.quiet refl)
    c.starting_at.result c.starting_at-in-Ok.result (c.starting_at.ensures.folded ∙ c.len-first.ensures)
    c.starting_at.ensures.rows c.starting_at-in-Ok.ensures (omega (arith, count, within)))

pub returns-in-Err-clause-busy : goal.returns-in-Err-clause-busy
returns-in-Err-clause-busy c = grind (arith, common_steps, quiet_in)

pub returns-in-Ok-clause-busy : goal.returns-in-Ok-clause-busy
returns-in-Ok-clause-busy c = grind (arith, common_steps, quiet_in)

pub returns-in-Ok-clause-shapes : goal.returns-in-Ok-clause-shapes
returns-in-Ok-clause-shapes c = grind (arith, common_steps, shapes-with_contents)

pub returns-in-Ok-clause-bases : goal.returns-in-Ok-clause-bases
returns-in-Ok-clause-bases c =
    let g = c.args.state.now in
    let s = opening_in g.journal in
    let j = entries_in g.journal in
    (base_stays s (opening_in c.fold.new.self) j (entries_in c.fold.new.self) c.requires.sound
    c.requires.legal c.fold.ensures.opening c.fold.ensures.entries)
