pub mod Seats
pub mod Worlds
pub mod Happening
pub mod Promises
pub mod Stepping
pub mod Reaching
pub mod Ending
