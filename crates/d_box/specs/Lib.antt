pub mod Boxes
pub mod Candidates
pub mod Splits
pub mod SplitPlaces
pub mod Halves
pub mod Steps
pub mod Trials
