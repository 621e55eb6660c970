-- What is proved about the counts.
pub mod Slots
