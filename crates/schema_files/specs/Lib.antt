pub mod Named
pub mod Sources
pub mod Held
pub mod Refusals
pub mod Stops
pub mod Laws
