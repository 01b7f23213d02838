pub mod Terms
pub mod Shown
pub mod Months
