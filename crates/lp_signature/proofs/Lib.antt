pub mod Logic
mod Added
pub mod PreludeIsWellFormed
pub mod PreludeIsFile
pub mod Rules
pub mod MoreRules
pub mod Trees
pub mod Scopes
pub mod Readings
pub mod SymbolTypes
pub mod TypedTrees
pub mod TypedEntries
pub mod TypedRules
mod SignatureIsWellFormed
pub mod Sides
pub mod Congruence
pub mod Carried
pub mod Signatures
mod Coded
mod ScopeLists
mod Spines
mod Declared
pub mod Constants
mod SymbolsIn
mod FileTerms
mod RulePatterns
mod Depths
mod SignatureIsFile
