-- The new entry is the answer of those before it; what is there for good can be read, and so can each shape.
use Rattle.std.proofs.Common.{arith, inl, refl}
use Rattle.argus_journal.proofs.Folded.{fold_sound}
use Rattle.argus_resume.proofs.Folds.{fold_begins}
use Rattle.argus_resume.proofs.laws.journals_stay_listable.Goals as goal

pub returns : goal.returns
returns c = record {
  begins = record { opening = inl refl; calls = tt; legal = tt; sound = refl; numbers = omega arith };
  calls = λ journal call listable low readable. record {
    opening = listable.opening;
    calls = (readable, listable.calls);
    legal = (refl, listable.legal);
    sound = listable.sound;
    numbers = omega (arith, low);
  };
  checkpoints = λ journal listable within. record {
    opening = fold_begins journal.opening journal.entries listable.opening listable.sound listable.legal
        listable.calls within;
    calls = tt;
    legal = tt;
    sound = fold_sound journal.opening journal.entries listable.sound listable.legal;
    numbers = omega (arith, within);
  };
}
