pub mod Pieces
pub mod SameDump
pub mod Keepers
pub mod OneRequest
pub mod Told
