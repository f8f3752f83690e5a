pub mod Greatest
pub mod Joining
pub mod Laws
pub mod Lists
pub mod Readings
pub mod States
pub mod Texts
pub mod Told
