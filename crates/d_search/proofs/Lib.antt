mod OrderFacts
mod PlaceFacts
mod SplitFacts
mod GrownFacts
mod BoundFacts
mod HeldFacts
mod CountFacts
mod StoodFacts
mod SameFacts
mod FrontFacts
mod KeptFacts
mod GrowthFacts
mod StepFacts
mod RuleFacts
pub mod PromiseFacts
pub mod BudgetFacts
mod ThereFacts
pub mod LawfulFacts
pub mod CountedFacts
pub mod CandidateFacts
pub mod SearchFacts
mod EndFacts
pub mod ShapeFacts
