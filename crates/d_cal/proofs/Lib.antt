mod WeekdayFacts
mod Moments
mod Digits
mod StartParts
mod StartPairs
pub mod StartLaws
pub mod StartFound
