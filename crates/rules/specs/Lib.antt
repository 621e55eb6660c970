-- The rules of the referee, in the order of 01: what every promise of the floors above cites.
pub mod Sizes
pub mod Lists
pub mod Colours
pub mod Points
pub mod Reach
pub mod Flood
pub mod Chain
pub mod Hash
pub mod Records
pub mod Flags
pub mod Answers
pub mod Tests
pub mod Move
pub mod Game
pub mod Calls
pub mod Picture
pub mod Games
