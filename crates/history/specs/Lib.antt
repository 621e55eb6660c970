-- The history: what a record is packed from, and the records in lent bytes. Laws are apart from the definitions.
pub mod Packing
pub mod History
