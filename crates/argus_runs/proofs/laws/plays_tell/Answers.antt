-- The entries that a run adds tell the run.
use Rattle.argus_runs.proofs.Plays.{plays-tell}
use Rattle.argus_runs.proofs.laws.plays_tell.Goals as goal

pub returns : goal.returns
returns c = plays-tell
