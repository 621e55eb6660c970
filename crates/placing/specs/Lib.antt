-- An empty board filled: what the calls promise, and its laws.
pub mod Placing
pub mod Laws
