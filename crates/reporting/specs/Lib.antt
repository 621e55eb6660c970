-- A game's facts in numbers alone. Laws are apart from the definitions.
pub mod Facts
pub mod Laws
