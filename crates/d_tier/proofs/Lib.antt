mod PriceFacts
mod TableFacts
pub mod TableGrows
mod EndFacts
pub mod ChargeFacts
pub mod LeastFacts
mod GapFacts
pub mod JoinFacts
pub mod RiseFacts
