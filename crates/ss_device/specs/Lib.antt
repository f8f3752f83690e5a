pub mod Device
pub mod Edits
pub mod Writing
pub mod Refusals
pub mod Removal
pub mod Forms
