pub mod OneLine
pub mod Flat
pub mod Written
pub mod Told
pub mod Fronts
