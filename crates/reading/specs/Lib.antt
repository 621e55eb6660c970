-- What is proved about the meaning of a line; `lines` has the definitions.
pub mod Laws
