pub mod Steps
pub mod Trees
pub mod Walked
pub mod Started
pub mod Laws
