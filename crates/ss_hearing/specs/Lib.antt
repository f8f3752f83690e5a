pub mod Bodies
pub mod Limits
pub mod Lists
pub mod Posts
pub mod Hearing
