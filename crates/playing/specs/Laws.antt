-- The laws of the definitions.
pub mod Promise
pub mod Unique
pub mod Count
pub mod Stone
pub mod Handicap
