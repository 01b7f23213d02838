mod Tests
mod CellFacts
mod HeadFacts
mod RowFacts
mod RowLoop
mod Outcomes
pub mod OneReader
pub mod MonthLaw
mod Sizes
