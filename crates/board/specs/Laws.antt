-- What is proved about boards, and about what the judge computes.
pub mod Board
pub mod Chains
pub mod Slots
pub mod Views
pub mod Stones
pub mod Ring
pub mod Pairs
pub mod Tests
pub mod Judge
pub mod Slot
pub mod NewBoard
pub mod Verdict
