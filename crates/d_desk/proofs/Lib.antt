pub mod Fronts
pub mod StageLaws
mod Loading
mod Storing
mod WriteLaws
