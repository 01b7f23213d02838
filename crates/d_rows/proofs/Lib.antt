pub mod RowLaws
mod PartLemmas
mod RowLemmas
mod DayLemmas
