-- What is proved about making boards.
pub mod NewBoard
pub mod FromColours
