pub mod Crossing
pub mod Entering
