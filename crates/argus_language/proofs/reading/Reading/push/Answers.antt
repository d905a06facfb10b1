-- With one step more, its lines come behind those so far, and all steps may stand where they do.
use Rattle.argus_language.proofs.Growing.{push-lines, push-sound}
use Rattle.argus_language.proofs.reading.Reading.push.Goals as goal

pub returns-clause-lines : goal.returns-clause-lines
returns-clause-lines c =
    let old = c.args.self.now in
    push-lines old.blocks.items old.steps.items c.push.new.self.items c.args.step c.in_ok-push.ensures.items

pub returns-clause-sound : goal.returns-clause-sound
returns-clause-sound c =
    let old = c.args.self.now in
    push-sound old.blocks.items old.steps.items c.push.new.self.items c.args.step c.in_ok-push.ensures.items
    c.requires.sound c.requires.stands
