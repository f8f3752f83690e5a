pub mod Held
pub mod Keeping
pub mod Kinds
pub mod Opening
pub mod Places
pub mod Steps
