pub mod Instance
pub mod Matching
pub mod Usable
pub mod Fits
pub mod Shallow
pub mod View
pub mod Laws
