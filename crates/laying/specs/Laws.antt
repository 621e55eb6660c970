-- What is proved about laying a stone.
pub mod Gather
pub mod Take
pub mod Lay
pub mod Laying
