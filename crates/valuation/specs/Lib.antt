pub mod Valuation
pub mod View
pub mod Laws
