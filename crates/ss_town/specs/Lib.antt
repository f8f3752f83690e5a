pub mod Limits
pub mod Places
pub mod Answers
pub mod Steps
pub mod Opening
pub mod Town
