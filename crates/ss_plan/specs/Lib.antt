pub mod Plan
pub mod Seats
pub mod Refusals
pub mod Written
