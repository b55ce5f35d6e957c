pub mod Refusals
pub mod Loads
