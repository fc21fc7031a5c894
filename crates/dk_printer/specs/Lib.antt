pub mod Writes
pub mod Reading
pub mod Parts
