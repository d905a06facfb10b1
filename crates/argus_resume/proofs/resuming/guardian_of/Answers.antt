-- The longest sound front is sound, and no longer than all objects.
use Rattle.std.proofs.Common.{arith, length, subst, sym, true, ◌≡◌}
use Rattle.argus_journal.specs.Opening.{is_sound}
use Rattle.argus_resume.specs.{SoundFront.opening_front, Stage.opening_read}
use Rattle.argus_resume.proofs.{Ends.front_shorter, Sound.{count_sound, count_within}}
use Rattle.argus_resume.proofs.resuming.guardian_of.Goals as goal

pub guardian-requires-clause-within : goal.guardian-requires-clause-within
guardian-requires-clause-within c = omega (
  arith,
  c.sound_count-count.ensures,
  count_within (opening_read c.args.lines.now) (length c.args.lines.now.objects.items),
)

pub guardian-requires-clause-sound : goal.guardian-requires-clause-sound
guardian-requires-clause-sound c =
    subst (λ n. is_sound (opening_front (opening_read c.args.lines.now) n) ≡ true) (sym c.sound_count-count.ensures)
    (count_sound (opening_read c.args.lines.now) (length c.args.lines.now.objects.items))

pub end_of-requires-clause-within : goal.end_of-requires-clause-within
end_of-requires-clause-within c = omega (
  arith,
  c.sound_count-count.ensures,
  count_within (opening_read c.args.lines.now) (length c.args.lines.now.objects.items),
)

pub overflow_sub-result : goal.overflow_sub-result
overflow_sub-result c = omega (
  arith,
  c.end.ensures,
  c.end_of.ensures,
  front_shorter (opening_read c.args.lines.now) c.sound_count-count.result,
)
