-- What one line of text means, from its bytes alone, and what reading it promises. Laws are apart from the definitions.
pub mod Command
pub mod Reads
pub mod Steps
pub mod Laws
