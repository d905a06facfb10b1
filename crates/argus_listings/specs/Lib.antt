pub mod Listing
pub mod Flushing
pub mod Auditing
