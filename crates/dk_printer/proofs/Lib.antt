pub mod Joined
pub mod Parts
pub mod Terms
pub mod Texts
pub mod Loops
pub mod Kept
