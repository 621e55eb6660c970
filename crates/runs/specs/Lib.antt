-- What holds of every run of calls.
pub mod Runs
pub mod Holds
pub mod Orders
pub mod Alike
