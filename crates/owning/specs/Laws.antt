-- What is proved about the tests of a list. A law stands in the file that is named after its subject.
pub mod Lists
