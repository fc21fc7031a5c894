pub mod Lists
pub mod Names
pub mod Steps
pub mod Unique
