-- What is proved about the definitions. A law stands in the file that is named after its subject.
pub mod Lists
pub mod Front
pub mod View
