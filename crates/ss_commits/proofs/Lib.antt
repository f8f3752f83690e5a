pub mod Written
pub mod Fronts
pub mod Told
pub mod Steps
