pub mod Endings
pub mod Files
pub mod Changes
pub mod Items
pub mod Remotes
pub mod Tellings
pub mod Merging
pub mod Runs
