mod Marks
mod NameFacts
mod CellFacts
mod ReadingFacts
mod RowFacts
mod ColumnFacts
mod BlockFacts
pub mod KeptFacts
