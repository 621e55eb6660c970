-- What is proved about the history.
pub mod Laws
