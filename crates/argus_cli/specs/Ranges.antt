-- Which options a run takes.
use Rattle.std.specs.Prelude.{ℕ, ◌≤◌}
use Rattle.argus_cli.specs.declared.limits.TheConstants.{MAX_PATIENCE, MAX_WORKERS}
use Rattle.argus_cli.specs.declared.run_options.Options.{Options}

-- there is a worker, and not more than the limit
abbrev pub IsTeam : ℕ → Type 0
IsTeam workers = (1 ≤ workers) × (workers ≤ MAX_WORKERS)

-- workers and patience are within their ranges
abbrev pub KeepsRanges : Options → Type 0
KeepsRanges options = IsTeam options.workers × (options.patience ≤ MAX_PATIENCE)
