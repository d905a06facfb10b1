pub mod Added
pub mod Audits
pub mod Each
pub mod Pieces
