pub mod Lines
pub mod SeenRows
pub mod Unique
pub mod Flattened
pub mod Turning
