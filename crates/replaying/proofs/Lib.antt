-- Laws that the proof of a replay cites.
pub mod Turn
