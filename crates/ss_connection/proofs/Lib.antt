pub mod Later
pub mod Passing
pub mod Exchanges
pub mod Moving
pub mod Run
