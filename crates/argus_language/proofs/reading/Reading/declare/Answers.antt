-- With one shape more that can be made, all can be made.
use Rattle.std.proofs.{lemmas.Grind.common_steps, Common.{◌∙◌, ap, arith, rules}}
use Rattle.argus_language.specs.Objects.{AllMakeable}
use Rattle.argus_language.proofs.Growing.{makeable-more, on-ok}
use Rattle.argus_language.proofs.reading.Reading.declare.Goals as goal

pub returns-clause-makeable : goal.returns-clause-makeable
returns-clause-makeable c =
    let old = c.args.self.now.objects in
    let new = c.push.new.self.objects in
    on-ok c.push.result (AllMakeable old → AllMakeable new)
    (makeable-more old new c.in_ok-made.made (ap (λ o. o.shapes) c.push.ensures.objects
    ∙ c.in_ok-declare.ensures.shapes) c.in_ok-made.ensures.makeable)

pub returns-in-Some-clause-fault : goal.returns-in-Some-clause-fault
returns-in-Some-clause-fault c = search rules

pub returns-in_err-made-clause-fault : goal.returns-in_err-made-clause-fault
returns-in_err-made-clause-fault c = search rules

pub returns-in_err-made-clause-fine : goal.returns-in_err-made-clause-fine
returns-in_err-made-clause-fine c = search rules

pub returns-in_err-made-clause-names : goal.returns-in_err-made-clause-names
returns-in_err-made-clause-names c = search rules

pub returns-in_err-made-clause-shapes : goal.returns-in_err-made-clause-shapes
returns-in_err-made-clause-shapes c = search rules

pub returns-in_err-made-clause-kept : goal.returns-in_err-made-clause-kept
returns-in_err-made-clause-kept c = search rules

pub returns-in_err-made-clause-makeable : goal.returns-in_err-made-clause-makeable
returns-in_err-made-clause-makeable c = search rules

pub returns-in_err-made-clause-levels : goal.returns-in_err-made-clause-levels
returns-in_err-made-clause-levels c = search rules

pub returns-in_err-made-clause-lines : goal.returns-in_err-made-clause-lines
returns-in_err-made-clause-lines c = search rules

pub returns-in_err-made-clause-sound : goal.returns-in_err-made-clause-sound
returns-in_err-made-clause-sound c = search rules

pub name_of-requires : goal.name_of-requires
name_of-requires c = search rules

pub returns-in_err-name_of-clause-fault : goal.returns-in_err-name_of-clause-fault
returns-in_err-name_of-clause-fault c = search rules

pub returns-in_err-name_of-clause-fine : goal.returns-in_err-name_of-clause-fine
returns-in_err-name_of-clause-fine c = search rules

pub returns-in_err-name_of-clause-names : goal.returns-in_err-name_of-clause-names
returns-in_err-name_of-clause-names c = search rules

pub returns-in_err-name_of-clause-shapes : goal.returns-in_err-name_of-clause-shapes
returns-in_err-name_of-clause-shapes c = search rules

pub returns-in_err-name_of-clause-kept : goal.returns-in_err-name_of-clause-kept
returns-in_err-name_of-clause-kept c = search rules

pub returns-in_err-name_of-clause-makeable : goal.returns-in_err-name_of-clause-makeable
returns-in_err-name_of-clause-makeable c = search rules

pub returns-in_err-name_of-clause-levels : goal.returns-in_err-name_of-clause-levels
returns-in_err-name_of-clause-levels c = search rules

pub returns-in_err-name_of-clause-lines : goal.returns-in_err-name_of-clause-lines
returns-in_err-name_of-clause-lines c = search rules

pub returns-in_err-name_of-clause-sound : goal.returns-in_err-name_of-clause-sound
returns-in_err-name_of-clause-sound c = search rules

pub same-made : goal.same-made
same-made c = search rules

pub declare-requires-clause-named : goal.declare-requires-clause-named
declare-requires-clause-named c = search rules

pub declare-requires-clause-new : goal.declare-requires-clause-new
declare-requires-clause-new c = search rules

pub declare-requires-clause-room : goal.declare-requires-clause-room
declare-requires-clause-room c = search rules

pub returns-in_err-declare-clause-fault : goal.returns-in_err-declare-clause-fault
returns-in_err-declare-clause-fault c = search rules

pub returns-in_err-declare-clause-fine : goal.returns-in_err-declare-clause-fine
returns-in_err-declare-clause-fine c = search rules

pub returns-in_err-declare-clause-names : goal.returns-in_err-declare-clause-names
returns-in_err-declare-clause-names c = search rules

pub returns-in_err-declare-clause-shapes : goal.returns-in_err-declare-clause-shapes
returns-in_err-declare-clause-shapes c = search rules

pub returns-in_err-declare-clause-kept : goal.returns-in_err-declare-clause-kept
returns-in_err-declare-clause-kept c = search rules

pub returns-in_err-declare-clause-makeable : goal.returns-in_err-declare-clause-makeable
returns-in_err-declare-clause-makeable c = search rules

pub returns-in_err-declare-clause-levels : goal.returns-in_err-declare-clause-levels
returns-in_err-declare-clause-levels c = search rules

pub returns-in_err-declare-clause-lines : goal.returns-in_err-declare-clause-lines
returns-in_err-declare-clause-lines c = search rules

pub returns-in_err-declare-clause-sound : goal.returns-in_err-declare-clause-sound
returns-in_err-declare-clause-sound c = search rules

pub push-requires-clause-sound : goal.push-requires-clause-sound
push-requires-clause-sound c = search rules

pub returns-clause-fault : goal.returns-clause-fault
returns-clause-fault c = search rules

pub returns-clause-fine : goal.returns-clause-fine
returns-clause-fine c = search rules

pub returns-clause-names : goal.returns-clause-names
returns-clause-names c = search rules

pub returns-clause-shapes : goal.returns-clause-shapes
returns-clause-shapes c = grind (arith, common_steps)

pub returns-clause-kept : goal.returns-clause-kept
returns-clause-kept c = grind (arith, common_steps)

pub returns-clause-levels : goal.returns-clause-levels
returns-clause-levels c = search rules

pub returns-clause-sound : goal.returns-clause-sound
returns-clause-sound c = search rules
