-- What is proved about the definitions.
pub mod Says
pub mod Lists
pub mod Draws
