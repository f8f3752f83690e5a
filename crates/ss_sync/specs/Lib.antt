pub mod Rows
pub mod Fetched
pub mod Joined
pub mod Equal
pub mod Posts
pub mod Told
