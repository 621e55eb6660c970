-- What the proofs of several functions share.
pub mod Arrays
pub mod Store
pub mod Merge
