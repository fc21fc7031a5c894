pub mod Reading
pub mod Part
pub mod Lawful
pub mod Selection
pub mod Sound
pub mod View
pub mod Worked
pub mod Laws
