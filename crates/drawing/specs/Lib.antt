-- What the promises of this crate cite beside the rules, the board and the lists. Laws are apart from the definitions.
pub mod Picture
pub mod Laws
