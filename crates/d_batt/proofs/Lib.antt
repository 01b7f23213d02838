pub mod Readers
mod Names
mod Order
mod RowFacts
mod LevelFacts
pub mod Accepted
mod Outcomes
