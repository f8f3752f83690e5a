pub mod Digests
pub mod Lines
pub mod Cells
pub mod Values
