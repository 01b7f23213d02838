pub mod Calendar
pub mod Schedules
pub mod Starts
pub mod StartCells
