-- The state of a game, letter for letter, and what writing it promises. Laws are apart from the definitions.
pub mod State
pub mod Said
pub mod Laws
