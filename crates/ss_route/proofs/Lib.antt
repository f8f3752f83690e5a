pub mod Appending
mod Blanks
mod Composed
mod Fit
pub mod Heard
mod Pieces
mod Reasons
pub mod Sendable
pub mod Sent
mod Tokens
mod Uploads
pub mod Quiet
