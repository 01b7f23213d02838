pub mod Storage
pub mod Shown
pub mod Numbers
pub mod Kinds
pub mod Checks
pub mod BatteryFile
pub mod Levels
pub mod Law
