pub mod Text
pub mod Decimal
pub mod Scan
pub mod Fault
pub mod Size
pub mod Law
pub mod Grid
pub mod Brackets
