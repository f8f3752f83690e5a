pub mod Names
pub mod Refused
pub mod Lines
pub mod Reading
pub mod Values
pub mod Urls
pub mod Actions
pub mod Commands
