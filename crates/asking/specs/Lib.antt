-- What is asked of a game's points: the tests as questions, and what is promised.
pub mod Tests
pub mod Promise
pub mod Laws
