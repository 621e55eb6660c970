-- What is asked of a point before a stone is laid there: what the tests tell, and what the code asks of a state.
pub mod Spot
pub mod Told
pub mod Asking
pub mod Promise
pub mod Laws
