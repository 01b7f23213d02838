pub mod HalfFacts
pub mod CombinationFacts
pub mod ListFacts
mod PlaceFacts
mod FoundFacts
mod SizeFacts
mod SplitFacts
mod TrialFacts
pub mod PlaceOfSplit
