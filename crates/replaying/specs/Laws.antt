-- The laws of the definitions.
pub mod Entry
pub mod Kept
pub mod Replay
