pub mod Made
pub mod Offered
pub mod Refused
pub mod Shapes
