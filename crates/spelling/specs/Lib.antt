-- What the words of a line are and the numbers that they write, and what reading them promises. Laws are apart from the definitions.
pub mod Text
pub mod Number
pub mod Steps
pub mod Laws
