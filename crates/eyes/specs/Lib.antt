-- What the eye test asks corner by corner.
pub mod Eye
pub mod Laws
