pub mod Counts
pub mod Links
pub mod Ports
pub mod Dials
pub mod Asked
pub mod Stores
