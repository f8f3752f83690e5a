pub mod Bookmarks
pub mod Asking
pub mod Serving
pub mod Good
pub mod Steps
pub mod Typed
