pub mod Chain
pub mod Lends
pub mod Links
pub mod Nodes
