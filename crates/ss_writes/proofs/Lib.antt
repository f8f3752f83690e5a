pub mod Changing
pub mod Made
pub mod Making
pub mod Replacing
