pub mod Answered
pub mod Orders
mod Rows
pub mod Sorting
