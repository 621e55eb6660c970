-- What is proved about the steps: that they keep the table exact, and what they do to owners and colours.
pub mod Either
pub mod Ring
pub mod Links
pub mod Put
pub mod Join
pub mod Remove
