pub mod Known
pub mod Turns
pub mod Calls
pub mod Ends
pub mod Progress
