-- The work behind the statements.
pub mod Lent
pub mod Replay
pub mod Step
pub mod Table
pub mod Stone
pub mod Orders
pub mod Exactly
pub mod Moves
pub mod Run
pub mod Decide
pub mod Alike
pub mod Asked
pub mod Queries
pub mod Refused
pub mod Questions
