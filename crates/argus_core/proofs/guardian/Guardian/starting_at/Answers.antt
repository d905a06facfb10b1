-- The copies stand to the opening as the objects that were handed in.
use Rattle.std.proofs.{Common.{ap, map, subst, sym, ◌∙◌, ◌≤◌}, lemmas.List.length-map}
use Rattle.argus_contents.specs.declared.limits.TheConstants.{MAX_OBJECTS}
use Rattle.argus_core.proofs.Started.{kept_started}
use Rattle.argus_journal.specs.Opening.{KeepsNumbers, Opening, opening_with, plain_object}
use Rattle.argus_core.proofs.guardian.Guardian.starting_at.Goals as goal

pub invariant_of-result : goal.invariant_of-result
invariant_of-result c =
    let s : Opening = opening_with c.args.objects.items c.args.first_action c.args.first_entry in
    let few = subst (λ n. n ≤ MAX_OBJECTS) (sym (length-map c.args.objects.items plain_object))
    c.requires.few_objects in
    let limits : KeepsNumbers s =
    record { objects = few; actions = c.requires.few_actions; entries = c.requires.numbered } in
    rw (c.starting_at-3.ensures.opening, c.starting_at-3.ensures.entries)
    (kept_started c.starting_at.result c.in_ok-copies.copies.items c.starting_at-2.result s
    (c.in_ok-copies.ensures.opened ∙ ap (map plain_object) c.as_slice.ensures.value) c.in_ok-copies.ensures.free
    limits c.requires.sound c.starting_at.ensures.folded c.starting_at.ensures.rows c.starting_at-2.ensures)
