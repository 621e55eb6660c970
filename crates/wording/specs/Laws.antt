-- What is proved about the definitions.
pub mod Replies
pub mod Examples
