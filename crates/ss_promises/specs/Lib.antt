pub mod Exchanges
pub mod Values
pub mod Restarts
pub mod Journals
pub mod Readable
pub mod Steps
pub mod Courses
pub mod Moves
