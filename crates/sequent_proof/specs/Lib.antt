pub mod Rules
pub mod Tree
pub mod View
pub mod Text
pub mod Writes
pub mod Derivation
pub mod Laws
