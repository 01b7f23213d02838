mod Deciding
mod PeakTexts
mod WordPlaces
pub mod RequestFound
pub mod ShowFound
