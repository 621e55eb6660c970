-- What a line does at the desk, and the whole of its reply. Laws are apart from the definitions.
pub mod Does
pub mod Laws
