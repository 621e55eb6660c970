-- What is proved about the definitions.
pub mod Calls
pub mod Handicap
pub mod Spots
