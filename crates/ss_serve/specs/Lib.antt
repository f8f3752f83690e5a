pub mod Tallies
pub mod Accepting
pub mod Workers
pub mod Reports
pub mod Terms
pub mod Crew
pub mod Gathering
pub mod Fullness
