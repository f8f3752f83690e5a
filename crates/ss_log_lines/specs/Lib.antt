pub mod Requests
pub mod LogLines
pub mod Arrays
pub mod Pieces
pub mod Values
