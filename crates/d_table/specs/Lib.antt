pub mod Table
pub mod Fault
pub mod Cells
pub mod Block
pub mod Choice
pub mod Reading
