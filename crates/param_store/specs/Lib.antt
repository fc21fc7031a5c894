pub mod Numbers
pub mod RawOffers
pub mod Depth
pub mod Fault
pub mod View
