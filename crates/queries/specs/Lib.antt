-- What the queries' promises cite: what a query tells by the rules.
pub mod Goban
pub mod Laws
