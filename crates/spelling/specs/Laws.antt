-- What is proved about the definitions.
pub mod Text
pub mod Number
pub mod Steps
