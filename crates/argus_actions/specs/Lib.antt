pub mod Row
pub mod Rows
pub mod Tree
pub mod Refusals
pub mod Nodes
