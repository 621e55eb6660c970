-- What is proved about the history.
pub mod Lists
pub mod Packing
pub mod History
