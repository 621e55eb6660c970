-- The game: what its state shows, when it is true, and what a call promises.
pub mod Clock
pub mod View
pub mod Judge
pub mod After
pub mod Promise
pub mod Asks
pub mod Ticked
pub mod Laws
