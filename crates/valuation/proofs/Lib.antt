pub mod Unclosed
pub mod Saturated
pub mod Falsified
pub mod Ground
pub mod Standing
pub mod Parts
