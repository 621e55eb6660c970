-- What is shown of a game's board. Laws are apart from the definitions.
pub mod Promise
pub mod Laws
