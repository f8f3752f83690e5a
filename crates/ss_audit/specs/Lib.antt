pub mod Sound
pub mod Terms
pub mod Validity
pub mod Verdicts
