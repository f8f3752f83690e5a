pub mod Listed
pub mod Within
pub mod Formed
pub mod Again
pub mod Fronts
