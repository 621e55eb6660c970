-- What is proved about the definitions.
pub mod Tests
pub mod Promise
