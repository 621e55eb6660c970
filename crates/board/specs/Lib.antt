-- The board: its colours, when it is true, and what the judge computes.
pub mod Board
pub mod True
pub mod Judge
pub mod Verdict
pub mod Laws
