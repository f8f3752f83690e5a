pub mod Bodies
pub mod Stands
pub mod Last
pub mod After
pub mod Putting
