pub mod Saved
pub mod Written
pub mod Heads
pub mod Cuts
