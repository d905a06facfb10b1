-- The line has another number than the next one.
use Rattle.std.proofs.Common.{◌∙◌}
use Rattle.argus_entries.specs.Entry.{plain_entry}
use Rattle.argus_resume.proofs.entry_reading.entry_numbered.Goals as goal

pub returns-then-not-is_same-clause-fault : goal.returns-then-not-is_same-clause-fault
returns-then-not-is_same-clause-fault c = λ journal next other. record {
  number = c.in-Ok.number;
  entry = plain_entry c.in-Ok.entry;
  in_range = c.is_same.ensures.range;
  of = record { readable = c.in-Ok.ensures.readable; is = c.in-Ok.ensures.read };
  other = λ same. let t = c.is_same.ensures.same.1 (same ∙ next) in cc;
}
