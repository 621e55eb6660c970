-- Liberty sets. Laws are apart from the definitions.
pub mod Liberties
pub mod Laws
