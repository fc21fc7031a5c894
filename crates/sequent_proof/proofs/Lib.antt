pub mod Derives
mod Examples
mod Joined
pub mod Layers
pub mod Lists
