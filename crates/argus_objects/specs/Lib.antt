pub mod Object
pub mod Rules
pub mod CellChanges
pub mod Readers
pub mod ObjectList
pub mod Holdings
