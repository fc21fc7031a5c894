pub mod Fresh
pub mod KeepsFresh
pub mod Agrees
pub mod Outcomes
pub mod Evaluated
pub mod Meets
pub mod Memo
mod Promises
mod TermLists
mod PartSteps
mod Stepping
