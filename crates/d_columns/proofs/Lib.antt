pub mod CellFacts
mod TextFacts
mod NumberFacts
mod PeriodFacts
mod NameFacts
mod TierFacts
mod DigitFacts
mod PlaceFacts
mod ColumnFacts
mod IndexFacts
mod PastFacts
mod TierParts
mod HoleFacts
mod HoleCells
mod MonthNames
mod IgnoredFacts
mod TierColumns
pub mod HoleFound
pub mod HoleLaws
