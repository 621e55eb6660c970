-- The laws of the definitions.
pub mod Bits
pub mod Liberties
