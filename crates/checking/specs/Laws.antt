-- What is proved about the definitions.
pub mod Spot
pub mod Told
pub mod State
pub mod Near
pub mod Asking
pub mod Promise
