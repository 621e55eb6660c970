-- What the queries on the chain at a point tell by the rules. Laws are apart from the definitions.
pub mod Group
pub mod Laws
