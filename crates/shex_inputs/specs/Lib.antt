pub mod Named
pub mod Held
pub mod Asked
pub mod Refusals
pub mod Outcomes
pub mod Stops
pub mod Laws
pub mod Lines
