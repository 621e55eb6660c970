-- What the tests of a stone see beside a point, and what they say of it.
pub mod Near
pub mod Laws
