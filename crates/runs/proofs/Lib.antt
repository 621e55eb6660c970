-- What is proved of every run of calls, and its laws.
pub mod Laws
pub mod Statements
