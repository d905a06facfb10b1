-- The copies are the objects of the front.
use Rattle.std.proofs.{Common.{IfOk, List, ap, subst, sym, take, true, ◌∙◌, ◌≡◌}, lemmas.List.take-map}
use Rattle.std.specs.Prelude.{Option}
use Rattle.argus_contents.specs.{Content.PlainContent, Shape.PlainShape}
use Rattle.argus_journal.specs.Opening.{is_sound, opening_at}
use Rattle.argus_resume.specs.{Stage.{object_read, objects_read}, declared.opened_object.OpenedObject.OpenedObject}
use Rattle.argus_resume.proofs.opening_lines.OpeningLines.guardian.Goals as goal

pub starting_at-requires-clause-sound : goal.starting_at-requires-clause-sound
starting_at-requires-clause-sound c =
    let lines = c.args.self.now in
    let copies = c.in_ok-objects.ensures
    ∙ ap (λ (l : List OpenedObject). objects_read (take c.args.count l)) c.deref.ensures.value
    ∙ sym (take-map object_read c.args.count lines.objects.items) in
    subst (λ (l : List (PlainShape × Option PlainContent)). is_sound (opening_at l lines.first_action lines.first_entry)
    ≡ true) (sym copies) c.requires.sound

pub returns-clause-opening : goal.returns-clause-opening
returns-clause-opening c =
    let lines = c.args.self.now in
    let copies = c.in_ok-objects.ensures
    ∙ ap (λ (l : List OpenedObject). objects_read (take c.args.count l)) c.deref.ensures.value
    ∙ sym (take-map object_read c.args.count lines.objects.items) in
    subst (λ (l : List (PlainShape × Option PlainContent)). IfOk c.starting_at.result
    (λ guardian. guardian.opening ≡ opening_at l lines.first_action lines.first_entry)) copies
    c.starting_at.ensures.opening
