-- What is proved about the definitions. A law stands in the file that is named after its subject.
pub mod Seen
pub mod Answers
pub mod Unique
