pub mod Numbers
pub mod Stay
pub mod Offers
