pub mod Told
pub mod Causes
pub mod Plans
pub mod Memory
