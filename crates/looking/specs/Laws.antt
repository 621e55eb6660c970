-- What is proved about looking.
pub mod Lists
pub mod Table
pub mod Seen
pub mod Sight
