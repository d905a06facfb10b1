use Rattle.std.proofs.Common.{refl}
use Rattle.argus_store.proofs.Runs.{folds, runs}
use Rattle.argus_store.proofs.laws.appends_are_listed.Goals as goal

pub returns-clause-begins : goal.returns-clause-begins
returns-clause-begins c = λ name version. (
  record {
    entry = 0;
    end = _;
    in_place = tt;
    begins = refl;
    follow = refl;
    ends = record { name_is = refl; next_is = refl; sum_is = refl };
  },
  refl,
)

pub returns-clause-goes_on : goal.returns-clause-goes_on
returns-clause-goes_on c = runs

pub returns-clause-folds : goal.returns-clause-folds
returns-clause-folds c = folds
