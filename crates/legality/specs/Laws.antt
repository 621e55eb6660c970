-- What is proved about the tests.
pub mod Lists
pub mod Near
