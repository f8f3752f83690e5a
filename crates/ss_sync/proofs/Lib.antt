pub mod Sizes
pub mod Putting
pub mod Fetching
pub mod Equal
pub mod Untimed
