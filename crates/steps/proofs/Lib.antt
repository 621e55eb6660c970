-- What the proofs of several functions share.
pub mod Walked
pub mod Growing
pub mod Sides
