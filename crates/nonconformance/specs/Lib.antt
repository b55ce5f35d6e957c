pub mod Bounds
pub mod Those
pub mod Reasons
pub mod Offers
pub mod Found
pub mod Causes
pub mod Laws
