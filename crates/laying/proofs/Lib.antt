-- What the proof of laying a stone is made of.
pub mod Alone
pub mod Beside
pub mod Joined
pub mod Ending
