pub mod Arcs
pub mod Cheapest
pub mod Best
pub mod Sums
pub mod Days
