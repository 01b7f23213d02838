pub mod Meters
pub mod Shown
pub mod Readings
pub mod Checks
pub mod Law
