pub mod Input
pub mod FailStop
