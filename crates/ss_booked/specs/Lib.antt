pub mod Sizes
pub mod Sound
pub mod Facts
pub mod Book
pub mod Booked
pub mod Turns
pub mod Starts
