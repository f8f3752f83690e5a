pub mod Times
pub mod Paths
pub mod Holds
pub mod Seen
pub mod Calls
