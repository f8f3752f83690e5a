pub mod Batches
pub mod Calls
pub mod Keeping
pub mod Memory
pub mod Together
