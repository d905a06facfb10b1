-- One object after another is copied.
use Rattle.std.proofs.Common.{IfOk, ap, subst, sym, true, ◌∙◌, ◌≡◌}
use Rattle.std.specs.Prelude.{Option}
use Rattle.argus_contents.specs.{Content.{PlainContent, plain_option}, Shape.PlainShape}
use Rattle.argus_journal.specs.{Journal.opening_of, Opening.{Opening, is_sound}}
use Rattle.argus_resume.proofs.Copied.{copied_all, copied_more}
use Rattle.argus_resume.proofs.rebuilding.reopened.Goals as goal

pub loop-shape-preserved : goal.loop-shape-preserved
loop-shape-preserved c = let next = copied_more (opening_of c.args.journal.now).objects c.loop-shape.o
    (c.in-Some.shape.now, plain_option c.in-Some.content.now) c.loop-shape.objects.items c.push.new.self.items
    (c.in_ok-shape.shape, c.in_ok-content.content) (sym c.in-Some.ensures.object) c.loop-shape.invariant.copied
    c.in_ok-push.ensures.items (ap (λ (s : PlainShape). (s, plain_option c.in_ok-content.content)) c.in_ok-shape.ensures
    ∙ ap (λ (k : Option PlainContent). (c.in-Some.shape.now, k)) c.in_ok-content.ensures) in
    record { within = next.0; copied = next.1 }

pub starting_at-requires-clause-sound : goal.starting_at-requires-clause-sound
starting_at-requires-clause-sound c =
    let same = copied_all (opening_of c.args.journal.now) c.loop-shape.objects.items c.loop-shape.o
    c.first_action.result c.first_entry.result (sym c.in_default.ensures.object) c.loop-shape.invariant.copied
    c.first_action.ensures.first c.first_entry.ensures.first in
    subst (λ (s : Opening). is_sound s ≡ true) (sym same) c.opening.ensures.sound

pub returns-clause-opening : goal.returns-clause-opening
returns-clause-opening c =
    let same = copied_all (opening_of c.args.journal.now) c.loop-shape.objects.items c.loop-shape.o
    c.first_action.result c.first_entry.result (sym c.in_default.ensures.object) c.loop-shape.invariant.copied
    c.first_action.ensures.first c.first_entry.ensures.first in
    subst (λ (s : Opening). IfOk c.starting_at.result (λ again. again.opening ≡ s)) same c.starting_at.ensures.opening
