mod Given
mod Truth
mod Lines
pub mod Knowing
pub mod Renumbering
pub mod Accepting
pub mod Keeping
pub mod Proving
pub mod Preparing
pub mod Placing
pub mod InPlace
