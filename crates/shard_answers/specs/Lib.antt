pub mod Sources
pub mod Answers
pub mod Refusals
pub mod Stops
pub mod Laws
