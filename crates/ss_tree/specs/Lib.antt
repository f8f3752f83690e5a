pub mod Trees
pub mod Entries
pub mod Cells
pub mod Built
pub mod Walks
