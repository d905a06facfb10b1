pub mod Effects
pub mod History
pub mod HistoryPrefix
pub mod Published
pub mod BoardView
pub mod Keeper
