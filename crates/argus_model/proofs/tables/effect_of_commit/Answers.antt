-- The proof of the laws that stand on `effect_of_commit`.
use Rattle.argus_model.specs.Effects.{written_objects}
use Rattle.argus_model.proofs.{Commits.written_are_held, Effects.written-IsRising, Numbers.increasing}
use Rattle.argus_model.proofs.tables.effect_of_commit.Goals as goal

pub returns : goal.returns
returns g c = record {
  written = written_are_held;
  in_order = λ meaning done. increasing (written_objects meaning done) (written-IsRising meaning done);
}
