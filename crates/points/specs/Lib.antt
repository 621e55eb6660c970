-- What the promises of this crate cite beside the rules.
pub mod Place
pub mod Reason
pub mod Flag
