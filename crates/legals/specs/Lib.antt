-- The list of the legal points: what is told of each point.
pub mod Legals
pub mod Laws
