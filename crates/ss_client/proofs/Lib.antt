pub mod Leaving
pub mod Posting
pub mod Sending
pub mod Sound
pub mod Told
pub mod Nearing
pub mod Asked
pub mod Leading
