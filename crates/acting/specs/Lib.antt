-- What was read is done, each command by its function. Laws are apart from the definitions.
pub mod Reply
pub mod Acts
pub mod Laws
