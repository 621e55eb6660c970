-- What is proved about the definitions.
pub mod State
pub mod Examples
