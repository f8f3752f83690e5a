pub mod Rows
pub mod Built
pub mod Stand
pub mod Marks
pub mod Places
pub mod Planted
