-- What is proved about the definitions.
pub mod Put
pub mod Figures
pub mod Examples
