-- What is proved about the flood. A law stands in the file that is named after its subject.
pub mod Found
pub mod Edges
pub mod Looked
pub mod Flooding
pub mod Seen
