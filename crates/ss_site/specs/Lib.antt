pub mod Missing
pub mod Sites
pub mod Counted
pub mod Tables
pub mod Memories
