pub mod Lines
pub mod Shown
pub mod Charges
pub mod Plans
pub mod Tariffs
