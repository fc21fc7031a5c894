pub mod Found
pub mod Asking
pub mod Inference
pub mod View
pub mod Told
pub mod Verdicts
pub mod Laws
