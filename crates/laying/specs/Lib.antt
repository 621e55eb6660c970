-- What laying a stone does to a board.
pub mod Lay
pub mod Laying
pub mod Laws
