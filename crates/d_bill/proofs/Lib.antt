pub mod Deciding
pub mod Values
mod RangeFacts
mod PartFacts
mod TierFacts
pub mod SlopeFacts
pub mod TieredFacts
pub mod CountFacts
pub mod SizeFacts
pub mod RuleFacts
pub mod WalkFacts
pub mod ChargeFacts
pub mod BoundFacts
pub mod Laws
mod ModeNames
mod ScheduleRows
mod ScheduleLaws
pub mod ScheduleFound
mod JoinFacts
mod JoinRange
pub mod JoinLaw
mod StartFacts
