pub mod Desks
pub mod Openings
pub mod Sorting
pub mod Covered
