-- What is said of a line that is no call, letter for letter.
pub mod Faults
