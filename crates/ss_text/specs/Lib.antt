pub mod Decimals
pub mod Names
pub mod Numbers
pub mod Scan
pub mod Texts
pub mod Time
pub mod Tokens
