pub mod Elements
pub mod Full
pub mod Lists
pub mod Parsing
pub mod Permutations
pub mod Places
pub mod Reordering
pub mod SameRows
