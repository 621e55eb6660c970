-- What a call leaves at the desk, and the number that is told of it. Laws are apart from the definitions.
pub mod Reply
pub mod Told
pub mod Laws
