pub mod Logs
pub mod Fronts
