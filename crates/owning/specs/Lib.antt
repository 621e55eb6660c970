-- What is asked of the owners of points, and what is proved about lists that a loop goes through.
pub mod Owners
pub mod Laws
