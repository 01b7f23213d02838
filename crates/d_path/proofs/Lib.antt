pub mod CostLemmas
pub mod WayLemmas
mod StepLemmas
mod RowLemmas
mod FirstLemmas
mod LowerLemmas
mod SumLemmas
pub mod ExistsLemmas
mod Potentials
mod DayLemmas
mod DayWalks
pub mod DayLaws
