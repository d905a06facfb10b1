-- Numbers of entries fit 64 bits, and none stands behind the last one.
use Rattle.std.proofs.{Common.{arith, ◌≡◌, ◌≤◌}, lemmas.{Bool.Decides.nat_tests, List.length-reverse}}
use Rattle.std.proofs.lemmas.Option.{slice_get_past}
use Rattle.argus_audit.proofs.reading.entry_at.Goals as goal

pub overflow_add-first_entry : goal.overflow_add-first_entry
overflow_add-first_entry c = omega (arith, c.count.ensures.numbered, c.first_entry.ensures.first)

pub returns-else-place-count : goal.returns-else-place-count
returns-else-place-count c = grind (arith, nat_tests, length-reverse, slice_get_past)
