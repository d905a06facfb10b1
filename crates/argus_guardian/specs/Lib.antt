pub use Rattle.argus_core.specs.AbortingLive
pub use Rattle.argus_core.specs.Checkpoint
pub use Rattle.argus_core.specs.Effect
pub use Rattle.argus_core.specs.Objects
pub use Rattle.argus_core.specs.ReadyCommit
pub use Rattle.argus_core.specs.Statuses
pub use Rattle.argus_board.specs.BoardView
pub use Rattle.argus_board.specs.Effects
pub use Rattle.argus_board.specs.Keeper
pub use Rattle.argus_sharing.specs.CallEach
pub use Rattle.argus_sharing.specs.Checking
pub use Rattle.argus_sharing.specs.Checkpoint as SharedCheckpoint
pub use Rattle.argus_sharing.specs.Following
pub use Rattle.argus_sharing.specs.Locked
pub use Rattle.argus_sharing.specs.Receipt
pub use Rattle.argus_sharing.specs.Seat
pub use Rattle.argus_sharing.specs.Starting
pub use Rattle.argus_sharing.specs.Waking
pub use Rattle.argus_listings.specs.Listing
pub use Rattle.argus_reading.specs.Calls
pub use Rattle.argus_reading.specs.Laws as ReadingLaws
pub use Rattle.argus_reading.specs.Line as EntryLine
pub use Rattle.argus_reading.specs.OpeningLanguages
pub use Rattle.argus_resume.specs.JournalText
pub use Rattle.argus_resume.specs.Laws as ResumeLaws
pub use Rattle.argus_resume.specs.Lines
pub use Rattle.argus_resume.specs.ReadableCalls
pub use Rattle.argus_resume.specs.Resumed
pub use Rattle.argus_resume.specs.SoundFront
pub use Rattle.argus_resume.specs.Taking
pub use Rattle.argus_streams.specs.FailStop
pub use Rattle.argus_core.specs.declared as core_declared
pub use Rattle.argus_board.specs.declared as board_declared
pub use Rattle.argus_sharing.specs.declared as sharing_declared
pub use Rattle.argus_listings.specs.declared as listings_declared
pub use Rattle.argus_reading.specs.declared as reading_declared
pub use Rattle.argus_resume.specs.declared as resume_declared
