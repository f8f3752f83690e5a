pub mod Audited
pub mod Fitting
