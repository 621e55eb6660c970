-- What is proved about the meaning of a line.
pub mod Line
pub mod Few
pub mod Capped
pub mod Examples
