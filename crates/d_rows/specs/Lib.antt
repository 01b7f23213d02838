pub mod Packed
pub mod Runs
pub mod Blocks
pub mod Days
pub mod DayLending
pub mod Lending
