pub mod Commits
pub mod Values
pub mod Telling
pub mod Drafts
