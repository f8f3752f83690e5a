pub mod Hosts
pub mod Choices
pub mod Steps
pub mod Heard
pub mod Written
mod Addresses
pub mod Asked
pub mod Counted
