-- The opening is sound if as many objects as there are make a sound front.
use Rattle.std.proofs.{Common.{arith, length, subst, sym, true, ◌≡◌}, lemmas.List.length-map}
use Rattle.argus_journal.specs.Opening.{is_sound}
use Rattle.argus_resume.specs.{SoundFront.opening_front, Stage.{object_read, opening_read}}
use Rattle.argus_resume.proofs.Sound.{all_sound}
use Rattle.argus_resume.proofs.staging.take_first.Goals as goal

pub guardian-requires-clause-sound : goal.guardian-requires-clause-sound
guardian-requires-clause-sound c =
    let lines = c.args.lines.now in
    let items = lines.objects.items in
    let count : c.len-count.result ≡ length items = omega (arith, c.len-count.ensures, lines.objects.ok.0) in
    subst (λ n. is_sound (opening_front (opening_read lines) n) ≡ true) (sym count)
    (all_sound (opening_read lines) (length items) (sym (length-map items object_read))
    (omega (arith, count, c.if-sound_count-count.false, c.sound_count.ensures)))
