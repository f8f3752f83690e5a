pub mod Held
pub mod Numbers
pub mod Layout
pub mod Walk
pub mod Shelved
pub mod Ready
pub mod Sweep
