-- What contracts cite, in the order in which it is to be read.
pub mod Words
pub mod Fragments
pub mod Answer
pub mod Input
pub mod Outcome
pub mod Names
pub mod Message
pub mod ProofFile
pub mod Text
pub mod Claims
pub mod Writing
pub mod Laws
-- What serves the parts of a call and their proofs alone.
pub mod WordsRead
pub mod Stages
