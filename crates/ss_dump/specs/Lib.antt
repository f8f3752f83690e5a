pub mod Dumps
pub mod Telling
pub mod Stages
pub mod Undumped
pub mod Refilled
pub mod Same
pub mod Fronts
