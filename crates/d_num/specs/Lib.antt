pub mod Amount
pub mod Pot
pub mod Sums
