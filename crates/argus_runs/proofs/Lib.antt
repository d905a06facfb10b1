pub mod StoppedRuns
pub mod Growth
pub mod LastLine
pub mod Plays
pub mod Simulation
