pub mod Changes
pub mod Contents
pub mod Crossing
pub mod History
pub mod Prefixes
pub mod Rule
pub mod Tables
