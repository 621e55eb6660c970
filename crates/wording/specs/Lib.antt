-- What the replies say of points, letter for letter. Laws are apart from the definitions.
pub mod Replies
pub mod Laws
