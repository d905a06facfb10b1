pub mod TreeRefinement
pub mod CellRefinement
