mod Instances
mod Kept
mod Beside
mod Collected
mod AtParameters
mod TypedRule
pub mod Selected
mod Sorted
mod Numbers
mod Worked
