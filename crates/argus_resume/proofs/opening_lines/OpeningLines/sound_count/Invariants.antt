-- The objects from this one on fit with as many as are left, and no longer front is sound.
use Rattle.std.proofs.Common.{◌≡◌, ℕ, ◌<◌, ◌≤◌, get_or, length, true}
use Rattle.std.specs.Prelude.{Option}
use Rattle.argus_contents.specs.{Content.PlainContent, Shape.PlainShape}
use Rattle.argus_resume.specs.{SoundFront.sound_count, Stage.{objects_read, opening_read}}
use Rattle.argus_resume.proofs.Sound.{fits_with}
use Rattle.argus_resume.proofs.opening_lines.OpeningLines.sound_count.Given as goal

abbrev pub invariant-loop-o : goal.invariant-loop-o
invariant-loop-o l = record {
  low : l.o ≤ l.count;
  high : l.count ≤ length l.self.objects.items;
  fit : (k : ℕ) (d : PlainShape × Option PlainContent) → l.o ≤ k → k < l.count
      → fits_with l.count (get_or (objects_read l.self.objects.items) k d) ≡ true;
  same : sound_count (opening_read l.self) (length l.self.objects.items) ≡ sound_count (opening_read l.self) l.count;
}

abbrev pub decreases-loop-o : goal.decreases-loop-o
decreases-loop-o l = l.o
