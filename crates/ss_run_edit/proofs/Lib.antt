pub mod RemoteLines
pub mod LastIds
pub mod Rows
pub mod Above
pub mod FrontOf
pub mod Told
pub mod Merges
pub mod Turning
