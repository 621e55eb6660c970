-- Boards made whole: what the calls promise, and its laws.
pub mod Making
pub mod Laws
