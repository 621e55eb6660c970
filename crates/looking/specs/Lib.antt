-- What a board shows of its points.
pub mod Seen
pub mod Laws
