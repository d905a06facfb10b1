-- A block that ended is one step more of the block around it; to the lines so far comes its end.
use Rattle.std.proofs.{Common.{arith, rules}, lemmas.Grind.common_steps}
use Rattle.argus_language.proofs.Growing.{close-lines, close-sound}
use Rattle.argus_language.proofs.reading.Reading.close.Goals as goal

pub returns-clause-lines : goal.returns-clause-lines
returns-clause-lines c =
    let old = c.args.self.now in
    let pushed = rw (c.replace-steps.ensures.after, c.replace-steps.ensures.value) at c.in_ok-push.ensures.items in
    close-lines old.blocks.items c.pop.new.self.items c.in-Some.block old.steps c.push.new.self.items
    c.in-Some.ensures.items c.requires.sound pushed

pub returns-clause-sound : goal.returns-clause-sound
returns-clause-sound c =
    let old = c.args.self.now in
    let pushed = rw (c.replace-steps.ensures.after, c.replace-steps.ensures.value) at c.in_ok-push.ensures.items in
    close-sound old.blocks.items c.pop.new.self.items c.in-Some.block old.steps c.push.new.self.items
    c.in-Some.ensures.items c.requires.sound pushed

pub returns-in_default-clause-objects : goal.returns-in_default-clause-objects
returns-in_default-clause-objects c = search rules

pub returns-in_default-clause-levels : goal.returns-in_default-clause-levels
returns-in_default-clause-levels c = search rules

pub returns-in_default-clause-lines : goal.returns-in_default-clause-lines
returns-in_default-clause-lines c = search rules

pub returns-in_default-clause-sound : goal.returns-in_default-clause-sound
returns-in_default-clause-sound c = search rules

pub returns-in_default-clause-outer : goal.returns-in_default-clause-outer
returns-in_default-clause-outer c = search rules

pub returns-in_err-push-clause-fault : goal.returns-in_err-push-clause-fault
returns-in_err-push-clause-fault c = search rules

pub returns-in_err-push-clause-objects : goal.returns-in_err-push-clause-objects
returns-in_err-push-clause-objects c = search rules

pub returns-in_err-push-clause-levels : goal.returns-in_err-push-clause-levels
returns-in_err-push-clause-levels c = search rules

pub returns-in_err-push-clause-lines : goal.returns-in_err-push-clause-lines
returns-in_err-push-clause-lines c = search rules

pub returns-in_err-push-clause-sound : goal.returns-in_err-push-clause-sound
returns-in_err-push-clause-sound c = search rules

pub returns-in_err-push-clause-outer : goal.returns-in_err-push-clause-outer
returns-in_err-push-clause-outer c = search rules

pub returns-clause-objects : goal.returns-clause-objects
returns-clause-objects c = search rules

pub returns-clause-levels : goal.returns-clause-levels
returns-clause-levels c = grind (arith, common_steps)

pub returns-clause-outer : goal.returns-clause-outer
returns-clause-outer c = grind (arith, common_steps)
