pub mod Endings
pub mod Files
pub mod Tellings
pub mod Runs
