-- What the flood of one slot finds and leaves behind. Laws are apart from the definitions.
pub mod Flood
pub mod Laws
