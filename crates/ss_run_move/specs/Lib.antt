pub mod Endings
pub mod Inputs
pub mod Asked
pub mod Moves
pub mod Runs
pub mod Steps
