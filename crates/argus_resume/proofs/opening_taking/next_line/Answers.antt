-- The line says no object, or one that can't be the next; or the opening has one object more.
use Rattle.std.proofs.{Common.{ap, length, sym, ◌+◌, ◌∙◌}, lemmas.Bool.false≢true, lemmas.List.length-map}
use Rattle.argus_contents.specs.Content.{plain_option}
use Rattle.argus_resume.specs.{Stage.{object_read, opening_read}, declared.opened_object.OpenedObject.OpenedObject}
use Rattle.argus_resume.proofs.{ObjectAdded.{added_ends, added_readable, added_text}, Openings.{no_adding, no_object}}
use Rattle.argus_resume.proofs.opening_taking.next_line.Goals as goal

pub returns-in-Err-Left-clause-fault : goal.returns-in-Err-Left-clause-fault
returns-in-Err-Left-clause-fault c =
    no_object (opening_read c.args.lines.now) c.args.rest.now c.requires.readable.some c.utf8.rest
    (rw c.in-Err-Left.field-0-is at c.in-Err-Left.ensures.stops)

pub returns-then-not-may_add-clause-fault : goal.returns-then-not-may_add-clause-fault
returns-then-not-may_add-clause-fault c =
    no_adding (opening_read c.args.lines.now) c.args.rest.now c.in-Ok.o (c.in-Ok.shape, plain_option c.in-Ok.content)
    c.requires.readable.some c.utf8.rest c.in-Ok.ensures.read
    (λ may. false≢true (sym c.if-not-may_add.true ∙ c.may_add.ensures.1
    (may.0 ∙ length-map c.args.lines.now.objects.items object_read, may.1, may.2)))

pub returns-in_ok-push-in-Ok-clause-counted : goal.returns-in_ok-push-in-Ok-clause-counted
returns-in_ok-push-in-Ok-clause-counted c =
    let lines = c.args.lines.now in
    let object : OpenedObject = record { shape = c.in-Ok.shape; content = c.in-Ok.content; end = c.in-Some.end } in
    let may = c.may_add.ensures.0 c.if-not-may_add.false in
    let items = c.push.new.self.items in
    let is = c.in_ok-push-in-Ok.ensures.items in
    record {
      readable = added_readable lines.objects.items lines.first_action lines.first_entry object c.in-Ok.o
          c.args.rest.now items is c.in-Ok.ensures.read may.0 may.1 may.2 c.requires.readable;
      head = c.requires.head;
      ends = added_ends lines.objects.items lines.first_action lines.first_entry object c.in-Ok.o c.args.rest.now
          items is c.in-Ok.ensures.read may.0 lines.head c.requires.head c.requires.ends
          (c.in-Some.ensures ∙ ap (λ k. k + 9 + length c.args.rest.now) c.end.ensures);
    }

pub returns-in_ok-push-in-Ok-clause-text : goal.returns-in_ok-push-in-Ok-clause-text
returns-in_ok-push-in-Ok-clause-text c =
    let lines = c.args.lines.now in
    let object : OpenedObject = record { shape = c.in-Ok.shape; content = c.in-Ok.content; end = c.in-Some.end } in
    let may = c.may_add.ensures.0 c.if-not-may_add.false in
    added_text lines.objects.items lines.first_action lines.first_entry object c.in-Ok.o c.args.rest.now
    c.push.new.self.items c.in_ok-push-in-Ok.ensures.items c.in-Ok.ensures.read may.0
