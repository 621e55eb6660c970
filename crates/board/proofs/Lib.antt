-- Lemmas that the proofs of the functions cite.
pub mod Counting
pub mod Notes
