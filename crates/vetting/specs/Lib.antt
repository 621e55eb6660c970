-- How a query answers. Laws are apart from the definitions.
pub mod Answered
pub mod Laws
