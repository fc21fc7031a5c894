pub mod Equal
mod Loops
mod Finds
mod PartLists
mod BinderLists
mod Rewritten
pub mod Found
pub mod Matched
pub mod First
pub mod Commute
pub mod ClosedParts
pub mod Redex
pub mod Scope
pub mod Sound
pub mod Promises
