-- What the promises of this crate cite beside the rules, the board and its view. Laws are apart from the definitions.
pub mod Lists
pub mod Laws
