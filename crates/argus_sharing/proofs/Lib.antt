pub mod Crossing
pub mod Bases
pub mod Follow
pub mod CallEach
pub mod Receipts
