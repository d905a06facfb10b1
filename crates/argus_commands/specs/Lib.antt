pub use Rattle.argus_language.specs.Fault
pub use Rattle.argus_language.specs.FaultyLines
pub use Rattle.argus_language.specs.Laws as LanguageLaws
pub use Rattle.argus_language.specs.Lines
pub use Rattle.argus_language.specs.OpeningLines
pub use Rattle.argus_language.specs.Parsed
pub use Rattle.argus_language.specs.PlainStep
pub use Rattle.argus_language.specs.Script
pub use Rattle.argus_runs.specs.Laws as RunLaws
pub use Rattle.argus_runs.specs.Lines as EntryLines
pub use Rattle.argus_runs.specs.Played
pub use Rattle.argus_runs.specs.RunOutcome
pub use Rattle.argus_runs.specs.RunPrefix
pub use Rattle.argus_runs.specs.Running
pub use Rattle.argus_workers.specs.Laws as RunCheckLaws
pub use Rattle.argus_workers.specs.Order
pub use Rattle.argus_workers.specs.Outcomes
pub use Rattle.argus_workers.specs.RunCheck
pub use Rattle.argus_streams.specs.FailStop
pub use Rattle.argus_streams.specs.Input
pub use Rattle.argus_language.specs.declared as language_declared
pub use Rattle.argus_runs.specs.declared as runs_declared
pub use Rattle.argus_workers.specs.declared as workers_declared
pub use Rattle.argus_streams.specs.declared as streams_declared
