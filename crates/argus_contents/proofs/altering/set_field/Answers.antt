-- A field that is written by a copy.
use Rattle.std.proofs.Common.{arith}
use Rattle.argus_contents.proofs.Arrays.{field_written}
use Rattle.argus_contents.proofs.altering.set_field.Goals as goal

pub returns-clause-ok : goal.returns-clause-ok
returns-clause-ok c =
    rw (← c.in_ok-put.ensures.ok)
    (field_written c.args.fields.now.items c.args.field c.put.new.place (omega arith))
