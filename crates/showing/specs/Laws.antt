-- What is proved about the definitions.
pub mod Promise
