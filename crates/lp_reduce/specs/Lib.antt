pub mod Put
pub mod Step
pub mod Normal
pub mod Number
pub mod Scope
pub mod Laws
