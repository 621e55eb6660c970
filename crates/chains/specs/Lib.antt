-- What a chain carries: its slot in the table, and the walk along its links. Laws are apart from the definitions.
pub mod Group
pub mod Walk
pub mod Laws
