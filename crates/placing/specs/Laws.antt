-- What is proved about placing stones.
pub mod Colours
pub mod Answers
pub mod Choked
pub mod Untaken
pub mod Added
pub mod SoFar
pub mod Spots
