pub mod EntryFacts
pub mod HourFacts
pub mod MonthFacts
