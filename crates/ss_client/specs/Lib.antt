pub mod Leaves
pub mod Runs
pub mod Asking
pub mod Machine
pub mod Bounds
pub mod Told
pub mod Sound
