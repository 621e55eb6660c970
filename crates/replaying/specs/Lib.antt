-- A row of moves, one after the other: what a replay promises.
pub mod Replay
pub mod Laws
