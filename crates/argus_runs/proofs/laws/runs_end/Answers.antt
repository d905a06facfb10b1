-- Each run comes to an end.
use Rattle.argus_runs.proofs.Plays.{runs-end}
use Rattle.argus_runs.proofs.laws.runs_end.Goals as goal

pub returns : goal.returns
returns c = runs-end
