-- The laws of the definitions.
pub mod View
pub mod Judge
pub mod Promise
pub mod After
pub mod Unique
