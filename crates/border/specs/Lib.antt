-- The border: what a replay in place gives.
pub mod InPlace
