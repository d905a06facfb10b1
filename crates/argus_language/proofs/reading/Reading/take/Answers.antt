-- A line that passes no limit has room for what it says.
use Rattle.std.proofs.{lemmas.Grind.common_steps, Common.{◌≡◌, sym, ◌∙◌, subst, rules, arith}}
use Rattle.argus_language.specs.{Command.command_of, Fault.position_at, Lines.line_text, PlainLine.plain_line}
use Rattle.argus_language.specs.Reading.{IsWithinLimits, levels_of}
use Rattle.argus_language.proofs.Rooms.{has_room}
use Rattle.argus_language.proofs.reading.Reading.take.Goals as goal

pub carry-requires-clause-room : goal.carry-requires-clause-room
carry-requires-clause-room c =
    let old = c.args.self.now in
    let ls = levels_of old.blocks.items in
    let line = c.args.line.now in
    let same : plain_line c.read_line-read.result ≡ command_of (line_text line) = search rules in
    subst (λ x. IsWithinLimits x ls old.objects) (sym same)
    (has_room (position_at c.args.lines c.args.bytes ls) old.objects line
    (sym c.is_too_long.ensures ∙ c.if-is_too_long.false))

pub is_too_long-requires : goal.is_too_long-requires
is_too_long-requires c = search rules

pub returns-then-is_too_long-clause-fault : goal.returns-then-is_too_long-clause-fault
returns-then-is_too_long-clause-fault c = search rules

pub returns-then-is_bad-clause-fault : goal.returns-then-is_bad-clause-fault
returns-then-is_bad-clause-fault c = search rules

pub may_follow-requires : goal.may_follow-requires
may_follow-requires c = search rules

pub returns-then-not-may_follow-clause-fault : goal.returns-then-not-may_follow-clause-fault
returns-then-not-may_follow-clause-fault c = search rules

pub overflow_add-lines : goal.overflow_add-lines
overflow_add-lines c = grind (arith, common_steps)

pub carry-requires-clause-sound : goal.carry-requires-clause-sound
carry-requires-clause-sound c = search rules

pub carry-requires-clause-may : goal.carry-requires-clause-may
carry-requires-clause-may c = search rules

pub returns-clause-fault : goal.returns-clause-fault
returns-clause-fault c = search rules

pub returns-clause-fine : goal.returns-clause-fine
returns-clause-fine c = search rules

pub returns-clause-names : goal.returns-clause-names
returns-clause-names c = search rules

pub returns-clause-shapes : goal.returns-clause-shapes
returns-clause-shapes c = search rules

pub returns-clause-kept : goal.returns-clause-kept
returns-clause-kept c = search rules

pub returns-clause-makeable : goal.returns-clause-makeable
returns-clause-makeable c = search rules

pub returns-clause-levels : goal.returns-clause-levels
returns-clause-levels c = search rules

pub returns-clause-lines : goal.returns-clause-lines
returns-clause-lines c = search rules

pub returns-clause-sound : goal.returns-clause-sound
returns-clause-sound c = search rules

pub returns-clause-counted : goal.returns-clause-counted
returns-clause-counted c = grind (arith, common_steps)
