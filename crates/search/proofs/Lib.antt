pub mod Load
pub mod Bound
pub mod Complete
pub mod Counted
pub mod Fewer
pub mod Growing
