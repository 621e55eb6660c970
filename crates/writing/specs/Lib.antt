-- What a text or a number is in a buffer, letter for letter. Laws are apart from the definitions.
pub mod Figures
pub mod Put
pub mod Laws
