-- What the steps of laying a stone do to a board, and when each may be made.
pub mod Steps
pub mod Links
pub mod Putting
pub mod Joining
pub mod Removing
pub mod Laws
