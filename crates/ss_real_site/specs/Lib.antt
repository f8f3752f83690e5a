pub mod Real
pub mod Files
