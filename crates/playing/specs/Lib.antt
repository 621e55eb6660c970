-- Stones and handicaps: what they promise, the tests of a stone, and the numbers and the state that an accepted one leaves.
pub mod Promise
pub mod Turn
pub mod After
pub mod Laws
