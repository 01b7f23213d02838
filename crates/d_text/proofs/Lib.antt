mod Decimals
mod Blanks
mod Rooms
mod ReadFacts
mod PhaseFacts
mod FaultFacts
pub mod SizeFacts
pub mod OneReading
mod TextDecided
pub mod DecimalLaws
pub mod FaultLaws
mod ScanFacts
mod ReaderFacts
mod LevelReads
mod LevelSays
mod LevelFacts
mod PartFacts
pub mod GridFacts
pub mod GridLaws
pub mod OutcomeLaws
pub mod OnceLaws
