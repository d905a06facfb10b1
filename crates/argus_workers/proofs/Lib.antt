mod Crossing
pub mod CheckedRuns
pub mod Endings
pub mod Keeping
pub mod Ordered
