pub mod Chunked
pub mod Newest
pub mod Shifted
pub mod Legal
pub mod Fitting
pub mod References
pub mod Contents
pub mod Serial
pub mod NextEntry
pub mod Kin
pub mod OwnersByEntries
pub mod Replay
pub mod Within
pub mod Folded
pub mod Crossing
pub use Rattle.argus_entries.proofs.Crossing as EntriesCrossing
