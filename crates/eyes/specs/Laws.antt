-- What is proved about eyes.
pub mod Counting
pub mod Eye
