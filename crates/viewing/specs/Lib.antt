-- What the promises of this crate cite beside the rules and the board, and how a buffer is filled. Laws are apart from the definitions.
pub mod View
pub mod Front
pub mod Seen
pub mod Laws
