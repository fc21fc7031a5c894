pub mod Need
pub mod Laws
pub mod OpenLeaves
pub mod Searched
