-- What the promises of the queries on a whole board cite: what a query tells by the rules.
pub mod Goban
