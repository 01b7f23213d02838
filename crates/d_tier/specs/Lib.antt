pub mod Tables
pub mod TierEnds
pub mod Charges
pub mod Gaps
pub mod Joined
pub mod Rising
pub mod Steps
